use Rattle.std.proofs.Common.{◌≡◌, Some, None, slice_get, slice_set, ap, arith, refl}
use Rattle.std.proofs.lemmas.Grind.{common_steps}
use Rattle.std.proofs.lemmas.Option.{gets}
use Rattle.pool_world.proofs.interleave.machine.take_value.Goals as goal

pub returns-in-Some-clause-value : goal.returns-in-Some-clause-value
returns-in-Some-clause-value g c =
    let there : slice_get c.args.pages.now.items c.args.page ≡ Some c.in-Some.page.now =
    grind (arith, common_steps, gets, c.in-Some.ensures) in
    rw there c.take.ensures.value

pub returns-in-Some-clause-pages : goal.returns-in-Some-clause-pages
returns-in-Some-clause-pages g c =
    let there : slice_get c.args.pages.now.items c.args.page ≡ Some c.in-Some.page.now =
    grind (arith, common_steps, gets, c.in-Some.ensures) in
    rw there (ap (λ page. slice_set c.args.pages.now.items c.args.page page) c.take.ensures.left)

pub returns-in-None-clause-value : goal.returns-in-None-clause-value
returns-in-None-clause-value g c =
    let none : slice_get c.args.pages.now.items c.args.page ≡ None =
    grind (arith, common_steps, gets, c.in-None.ensures) in
    rw none refl

pub returns-in-None-clause-pages : goal.returns-in-None-clause-pages
returns-in-None-clause-pages g c =
    let none : slice_get c.args.pages.now.items c.args.page ≡ None =
    grind (arith, common_steps, gets, c.in-None.ensures) in
    rw none refl
