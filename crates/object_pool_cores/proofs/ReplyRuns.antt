-- A run of commands with their replies goes on by one.
use Rattle.std.proofs.Common.{◌≡◌, ◌≢◌, List, [], ◌∷◌, ◌++◌, length, Result, IsErr, Ok, Err, OnOk, OnErr, refl, sym, ap}
use Rattle.std.proofs.Common.{◌∙◌, append_assoc, arith, ℕ, ◌+◌, ◌≤◌, length-append}
use Rattle.pool_parts.specs.declared.pull_error.PullError.{PullError}
use Rattle.object_pool_cores.specs.declared.sequential.item.Item.{Item}
use Rattle.object_pool_cores.specs.declared.sequential.attach_error.AttachError.{AttachError}
use Rattle.object_pool_cores.specs.declared.sequential.command.Command.{Command}
use Rattle.object_pool_cores.specs.declared.sequential.reply.Reply.{Reply}
use Rattle.std.proofs.lemmas.Bool.{false≢true}
use Rattle.std.specs.Iterator.{Yields}
use Rattle.std.specs.Vec.Iter.{into_iter_items, into_iter_steps}
use Rattle.std.specs.declared.vec.IntoIter.{IntoIter}
use Rattle.object_pool_cores.specs.Held.{Playing}
use Rattle.object_pool_cores.specs.Replies.{Plays, Replies}

-- what the iterator of a vector has given is a front of its items
pub taken_front : {X A : Type 0} (first : IntoIter X A) (taken : List X) (last : IntoIter X A)
    → Yields into_iter_steps first taken last → into_iter_items first ≡ taken ++ into_iter_items last
taken_front first [] last yields = ap into_iter_items yields
taken_front first (x ∷ taken) last yields = yields.1.0
    ∙ ap (λ rest. x ∷ rest) (taken_front yields.0 taken last yields.2)

-- a list that goes on from another does so with one element more
pub appended : {X : Type 0} (old more middle new : List X) (x : X) → middle ≡ old ++ more → new ≡ middle ++ x ∷ []
    → new ≡ old ++ (more ++ x ∷ [])
appended old more middle new x so_far last = last ∙ ap (λ items. items ++ x ∷ []) so_far
    ∙ append_assoc old more (x ∷ [])

-- where there is a next element, some are left
pub some_left : {X : Type 0} (left rest : List X) (next : X) → left ≡ next ∷ rest → left ≢ []
some_left left rest next split none = let count = ap length (sym split ∙ none) in absurd (omega arith)

-- where there is room for a reply to each command, there is room for the next one
pub room_for_next : {C R : Type 0} (all taken left rest : List C) (next : C)
    (before replies gathered : List R) (room : ℕ)
    → all ≡ taken ++ left → left ≡ next ∷ rest → gathered ≡ before ++ replies → length replies ≡ length taken
    → length before + length all ≤ room → length gathered + 1 ≤ room
room_for_next all taken left rest next before replies gathered room begins split goes_on each enough =
    let commands = ap length begins ∙ length-append taken left in
    let more = ap length split in
    let so_far = ap length goes_on ∙ length-append before replies in omega arith

-- nothing is said of an Ok where there is an error
pub no_Ok : {V E : Type 0} (result : Result V E) (P : Type 0) → IsErr result → OnOk result P
no_Ok (Ok v) P err = elim (false≢true err) [ ]
no_Ok (Err e) P err = tt

module _ {P T : Type 0} (pulls : P → Result (Item T) PullError → P → Type 0) (gives : P → Item T → P → Type 0)
    (attaches : P → T → Result (Item T) (AttachError T) → P → Type 0) where
  -- one command more, with its reply
  pub Replies-append : (old middle new : Playing P T) (commands : List (Command T)) (replies : List (Reply T))
      (command : Command T) (reply : Reply T) → Replies pulls gives attaches old commands replies middle
      → Plays pulls gives attaches middle command reply new
      → Replies pulls gives attaches old (commands ++ command ∷ []) (replies ++ reply ∷ []) new
  Replies-append old middle new [] [] command reply done next =
      (new, rw done at next, refl)
  Replies-append old middle new (c ∷ commands) (r ∷ replies) command reply done next =
      (done.0, done.1, Replies-append done.0 middle new commands replies command reply done.2 next)
  Replies-append old middle new [] (r ∷ replies) command reply done next = absurd done
  Replies-append old middle new (c ∷ commands) [] command reply done next = absurd done

  -- each command that was done has one reply
  pub length-replies : (old new : Playing P T) (commands : List (Command T)) (replies : List (Reply T))
      → Replies pulls gives attaches old commands replies new → length replies ≡ length commands
  length-replies old new [] [] done = refl
  length-replies old new (c ∷ commands) (r ∷ replies) done =
      let fewer = length-replies done.0 new commands replies done.2 in omega arith
  length-replies old new [] (r ∷ replies) done = absurd done
  length-replies old new (c ∷ commands) [] done = absurd done

-- a fact of an Ok leads to another
pub OnOk-map : {V E : Type 0} {P Q : Type 0} (result : Result V E) → (P → Q) → OnOk result P → OnOk result Q
OnOk-map (Ok v) leads h = leads h
OnOk-map (Err e) leads h = tt

-- what holds, holds of an error
pub OnErr-always : {V E : Type 0} {P : Type 0} (result : Result V E) → P → OnErr result P
OnErr-always (Ok v) p = tt
OnErr-always (Err e) p = p

-- a result is an Ok or an error
pub by_result : {V E : Type 0} {A B : Type 0} (C : Type 0) (result : Result V E) → OnOk result A → OnErr result B
    → (A → C) → (B → C) → C
by_result C (Ok v) ok err from_ok from_err = from_ok ok
by_result C (Err e) ok err from_ok from_err = from_err err
