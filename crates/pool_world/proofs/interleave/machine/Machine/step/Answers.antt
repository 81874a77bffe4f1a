use Rattle.std.proofs.Common.{inl}
use Rattle.pool_world.proofs.interleave.machine.Machine.step.Goals as goal

pub returns-in-ReadMask-clause-step : goal.returns-in-ReadMask-clause-step
returns-in-ReadMask-clause-step g c = rw c.in-ReadMask.is (inl c.read_mask.ensures.step)

pub returns-in-ReadHinted-clause-step : goal.returns-in-ReadHinted-clause-step
returns-in-ReadHinted-clause-step g c = rw c.in-ReadHinted.is (inl c.read_hinted.ensures.step)

pub returns-in-ClearBit-clause-step : goal.returns-in-ClearBit-clause-step
returns-in-ClearBit-clause-step g c = rw c.in-ClearBit.is (inl c.clear_bit.ensures.step)

pub returns-in-ReadNext-clause-step : goal.returns-in-ReadNext-clause-step
returns-in-ReadNext-clause-step g c = rw c.in-ReadNext.is (inl c.read_next.ensures.step)

pub returns-in-ExchangeNext-clause-step : goal.returns-in-ExchangeNext-clause-step
returns-in-ExchangeNext-clause-step g c = rw c.in-ExchangeNext.is (inl (c.exchange_next.ensures.step, c.exchange_next.ensures.whole))

pub returns-in-MoveOut-clause-step : goal.returns-in-MoveOut-clause-step
returns-in-MoveOut-clause-step g c = rw c.in-MoveOut.is (inl c.move_out.ensures.step)

pub returns-in-Write-clause-step : goal.returns-in-Write-clause-step
returns-in-Write-clause-step g c = rw c.in-Write.is (inl c.write.ensures.step)

pub returns-in-MoveHome-clause-step : goal.returns-in-MoveHome-clause-step
returns-in-MoveHome-clause-step g c = rw c.in-MoveHome.is (inl c.move_home.ensures.step)

pub returns-in-OrMask-clause-step : goal.returns-in-OrMask-clause-step
returns-in-OrMask-clause-step g c = rw c.in-OrMask.is (inl c.or_mask.ensures.step)
