-- The moves of values keep the invariant: out of a place, written, and home again; and a new agent.
use Rattle.std.proofs.Common.{◌≡◌, ◌≢◌, ◌⊎◌, inl, inr, ℕ, ◌^◌, ◌<◌, ◌≤◌, false, Option, Some, None, List, [], ◌∷◌}
use Rattle.std.proofs.Common.{◌++◌, if◌then◌else◌}
use Rattle.std.proofs.Common.{length, slice_get, slice_set, refl, ap, sym, ◌∙◌, arith, length-append}
use Rattle.std.proofs.lemmas.Bool.{cases_eq, cases_lt, cases_Bool}
use Rattle.std.proofs.lemmas.List.{length-set}
use Rattle.std.proofs.lemmas.Option.{slice_get_past}
use Rattle.pool_world.specs.declared.interleave.event.Event.TheVariants as event
use Rattle.pool_world.specs.declared.interleave.event.Seen.TheVariants as seen
use Rattle.pool_world.specs.declared.interleave.point.Point.TheVariants.{Reading, Taken, Holding, Home}
use Rattle.pool_world.specs.Pool.{Out, free_with, number}
use Rattle.pool_world.specs.Run.{Act, Opens, Writes, acts_of, pool_of}
use Rattle.pool_world.specs.World.State.{WorldPageState, WorldState}
use Rattle.pool_world.specs.World.Machine.{has_bit, page_value, with_page_value}
use Rattle.pool_world.specs.World.Machine.{begin}
use Rattle.pool_world.specs.World.Trace.{Log}
use Rattle.pool_world.specs.World.Inside.Invariant.{HoldsAt, Agrees}
use Rattle.pool_world.proofs.Places.{slice_get-some, slice_get-append_front, slice_get-append_last}
use Rattle.pool_world.proofs.Runs.{acts_of-own, acts_of-other, since-later, other-opens, holds-written}
use Rattle.pool_world.proofs.Runs.{holders-run}
use Rattle.pool_world.proofs.World.AbstractPool.{length-changed}
use Rattle.pool_world.proofs.World.AbstractPool.{changed-all, value-put_same, value-put_other, same-moved}
use Rattle.pool_world.proofs.World.Invariant.{GoesOn, StepsPages, pages-stay, hidden-step, visible-step}
use Rattle.pool_world.proofs.World.Invariant.{allows-fewer, pages-some, Carries, known-carried}
use Rattle.pool_world.proofs.World.Moves.{moved, known}
use Rattle.pool_world.proofs.World.WordSteps.{lies-at}

-- a value that there may be isn't out
free_with-in : {T : Type 0} (value : Option T) → free_with value ≢ Out
free_with-in None e = cc
free_with-in (Some v) e = cc

module _ {T : Type 0} {Leaves : T → T → Type 0} {first : List T} {log : Log T} {acts : List (Act T)}
    {old : WorldState T} (agrees : Agrees Leaves first log acts old) where
  -- the bit of a number that an agent holds is clear
  clear-held : length first ≡ 32 → (a k id : ℕ) (value : T) (page : WorldPageState T)
      → HoldsAt acts (length old.pages) a k id value
      → slice_get old.pages k ≡ Some page → has_bit page.word id ≡ false
  clear-held full a k id value page holds here =
      let holders = holders-run Leaves old.limit first full acts agrees.run in
      let out = holders.out (number k id) a holds.holds.number in
      elim (cases_Bool (has_bit page.word id)) [
        | inl set ↦ absurd (free_with-in (page_value old.pages k id)
            (sym (lies-at agrees k id page holds.in_page here
            ∙ ap (λ bit. if bit then free_with (page_value old.pages k id) else Out) set) ∙ out))
        | inr clear ↦ clear
      ]

  -- the pages after a value came to the place that an agent holds, or went from it
  placed : length first ≡ 32 → (a k id : ℕ) (held : T) (value : Option T) (page : WorldPageState T)
      → HoldsAt acts (length old.pages) a k id held
      → slice_get old.pages k ≡ Some page
      → StepsPages Leaves first acts acts old (with_page_value old.pages k id value) a
  placed full a k id held value page holds here =
      let holders = holders-run Leaves old.limit first full acts agrees.run in
      let f : WorldPageState T → WorldPageState T = λ p. record {
        word = p.word;
        places = slice_set p.places id value;
      } in
      let pages = with_page_value old.pages k id value in
      let count : length pages ≡ length old.pages = length-changed f old.pages k page here in
      record {
        count = omega arith;
        same = same-moved (pool_of first acts) old
            (record { pages = pages; agents = old.agents; limit = old.limit }) k id value page holds.in_page here
            (clear-held full a k id held page holds here) agrees.same refl;
        words = changed-all (λ p. p.word < 2 ^ 32) f old.pages k page here (agrees.words k page here) agrees.words;
        places = changed-all (λ p. length p.places ≡ 32) f old.pages k page here
            (length-set page.places id value ∙ agrees.places k page here) agrees.places;
        allowed = allows-fewer old.limit (length pages) (length old.pages) (omega arith) agrees.allowed;
        values = λ b j i other apart linked within theirs.
            let different : (j ≢ k) ⊎ (i ≢ id) =
            elim (cases_eq j k) [
              | inl same ↦
                  inr (λ too. apart (holders.one (number k id) a b holds.holds.number (theirs.number
                  ∙ ap (λ n. Some n) (ap (λ m. number m i) same ∙ ap (λ m. number k m) too))))
              | inr page ↦ inl page
            ] in
            value-put_other old.pages k id value page here j i different;
      }

  -- the value goes to the agent
  pub taken : length first ≡ 32 → (a k id : ℕ) (value : T) → slice_get old.agents a ≡ Some (Taken k id)
      → page_value old.pages k id ≡ Some value
      → GoesOn Leaves first log (event.MoveOut a) (seen.MovedOut a)
      (moved old (with_page_value old.pages k id None) a (Holding k id value))
  taken full a k id value at here_lies =
      let (known_value, holds, lies) = known agrees a (Taken k id) at in
      let is : known_value ≡ value = cc in
      let (page, here) = slice_get-some old.pages k holds.linked in
      let left = placed full a k id known_value None page holds here in
      hidden-step agrees _ at tt (λ b other. refl) left (record {
        linked = let more = left.count in let below = holds.linked in omega arith;
        in_page = holds.in_page;
        holds = rw is at holds.holds;
      })

  pub written : (a k id : ℕ) (before value : T) → slice_get old.agents a ≡ Some (Holding k id before)
      → GoesOn Leaves first log (event.Write a value) (seen.Wrote a) (moved old old.pages a (Holding k id value))
  written a k id before value at =
      let holds = known agrees a (Holding k id before) at in
      visible-step agrees (Writes a value) _ at refl (number k id, holds.holds.number) tt refl (λ b other. refl)
      (pages-stay agrees refl)
      (record {
        linked = holds.linked;
        in_page = holds.in_page;
        holds = holds-written acts a (number k id) before value holds.holds;
      })

  -- what reset left of the value goes to its place
  pub put : length first ≡ 32 → (a k id : ℕ) (value kept : T) → slice_get old.agents a ≡ Some (Holding k id value)
      → Leaves value kept
      → GoesOn Leaves first log (event.MoveHome a) (seen.MovedHome a)
      (moved old (with_page_value old.pages k id (Some kept)) a (Home k id))
  put full a k id value kept at leaves =
      let holds = known agrees a (Holding k id value) at in
      let (page, here) = slice_get-some old.pages k holds.linked in
      let left = placed full a k id value (Some kept) page holds here in
      hidden-step agrees _ at tt (λ b other. refl) left (
        value,
        kept,
        record {
          linked = let more = left.count in let below = holds.linked in omega arith;
          in_page = holds.in_page;
          holds = holds.holds;
        },
        leaves,
        value-put_same old.pages k id (Some kept) page here
            (let many = agrees.places k page here in let below = holds.in_page in omega arith),
      )

  -- a new agent begins
  pub begun : GoesOn Leaves first log event.Begin (begin old).0 (begin old).1
  begun =
      let a = length old.agents in
      let act : Act T = Opens a in
      let seen_now = seen.Began a in
      let later : Log T = (event.Begin, seen_now) ∷ log in
      let world : WorldState T = record {
        pages = old.pages;
        agents = old.agents ++ Reading 0 None ∷ [];
        limit = old.limit;
      } in
      let unknown : (b : ℕ) → length old.agents ≤ b → acts_of b acts ≡ [] = λ b past.
      rw (slice_get_past old.agents b past) at (agrees.agents b) in
      let some = pages-some acts in
      let pages = agrees.same.pages in
      let carries : (b : ℕ) → a ≢ b → Carries first log later acts (act ∷ acts) old world b = λ b other. record {
        own = acts_of-other act acts b other;
        out = λ n out. since-later first act acts b (λ pool. pool.at n ≡ Out) (other-opens act b other) out;
        had = λ count had. since-later first act acts b (λ pool. pool.pages ≡ count) (other-opens act b other) had;
        pages = omega arith;
        limit = refl;
        made = refl;
        values = λ k id value linked within holds. refl;
      } in
      record {
        acts = act ∷ acts;
        agrees = record {
          reads = inr (act, acts, refl, refl, agrees.reads);
          run = (unknown a (omega arith), agrees.run);
          saw_taken = (tt, agrees.saw_taken);
          same = record { pages = agrees.same.pages; places = agrees.same.places };
          words = agrees.words;
          places = agrees.places;
          allowed = agrees.allowed;
          agents = λ b.
              elim (cases_lt b a) [
                | inl below ↦
                    rw (slice_get-append_front old.agents (Reading 0 None ∷ []) b below)
                    (known-carried (carries b (λ is. absurd (omega arith))) Leaves (slice_get old.agents b)
                    (agrees.agents b))
                | inr past ↦ elim (cases_eq a b) [
                  | inl same ↦
                      let none : acts_of b acts ≡ [] = unknown b past in
                      let here : slice_get (old.agents ++ Reading 0 None ∷ []) b ≡ Some (Reading 0 None) = ap
                      (λ c. slice_get (old.agents ++ Reading 0 None ∷ []) c) (sym same)
                      ∙ slice_get-append_last old.agents (Reading 0 None) in
                      rw here
                      (record {
                        looking = rw (acts_of-own act acts b same, none) tt;
                        linked = omega arith;
                        saw_taken = λ n below. absurd (omega arith);
                        asked_full = tt;
                      })
                  | inr other ↦
                      rw
                      (slice_get_past (old.agents ++ Reading 0 None ∷ []) b
                      (omega (arith, length-append old.agents (Reading 0 None ∷ []))))
                      (acts_of-other act acts b other ∙ unknown b past)
                ]
              ];
        };
      }
