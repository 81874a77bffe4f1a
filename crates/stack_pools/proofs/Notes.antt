-- What notes know one after another.
use Rattle.std.proofs.Common.{◌≡◌, List, ◌++◌, Option, Some, None, IfSome, sym, ◌∙◌, ap, subst}
use Rattle.std.proofs.lemmas.List.{append_assoc}
use Rattle.history_lock.specs.History.{Known, IsPrefixOf}
use Rattle.stack_pools.specs.declared.operation.Operation.{Operation}
use Rattle.stack_pools.specs.StackHistory.{GoesOn}

prefix_of_prefix : {E : Type 0} (first second third : List E) → IsPrefixOf first second → IsPrefixOf second third
    → IsPrefixOf first third
prefix_of_prefix first second third one other =
    (other.0 ++ one.0, other.1 ∙ ap (λ l. other.0 ++ l) one.1 ∙ sym (append_assoc other.0 one.0 first))

-- what was seen goes on to a history, and that to what is known later
pub goes_on : {T : Type 0} (note later : Option (Known (Operation T))) (seen : Known (Operation T))
    (history : List (Operation T)) → note ≡ Some seen → IsPrefixOf seen.history history
    → IfSome later (λ known. IsPrefixOf history known.history) → GoesOn note later
goes_on earlier None seen history is before after = subst (λ n. GoesOn n None) (sym is) tt
goes_on earlier (Some known) seen history is before after =
    subst (λ n. GoesOn n (Some known)) (sym is) (prefix_of_prefix seen.history history known.history before after)
