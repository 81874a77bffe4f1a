use Rattle.std.proofs.Common.{◌≡◌, ◌<◌, ◌^◌, drop}
use Rattle.std.specs.Str.Parse.{digits_value, digits_value_after}
use Rattle.object_pool_cores.proofs.engine.command_text.value_of.Given as goal

-- the digits that are left complete the value, and it has no more digits than were read
abbrev pub invariant-loop-digit : goal.invariant-loop-digit
invariant-loop-digit l =
    (digits_value_after 10 l.value (drop l.digit-index l.digits) ≡ digits_value 10 l.digits)
    × (l.value < 10 ^ l.digit-index)
