use Rattle.std.proofs.Common.{rules}
use Rattle.std.proofs.lemmas.Result.{IfOk-weaker}
use Rattle.object_pool_cores.specs.OnePage.{IsMadePage}
use Rattle.object_pool_cores.proofs.Cores.KeptWord.{IsMadePage-map}
use Rattle.object_pool_cores.proofs.sequential.numbered_items.made_page.Goals as goal

pub returns-clause-ok : goal.returns-clause-ok
returns-clause-ok g c =
    IfOk-weaker c.new.result _ (IsMadePage (g.I.Init.answers c.args.init.now) g.K.Clean.meets)
    (λ page made. IsMadePage-map _ _ g.K.Clean.meets page (λ v given. search rules) made) c.new.ensures.made
