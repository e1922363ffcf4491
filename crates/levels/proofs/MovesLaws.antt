-- What callers of `start` and `next` learn: what is open and left at the start, and after each record.
-- Assumes nothing.
use Rattle.std.specs.Prelude.{◌≡◌, List, [], ◌∷◌, ℕ, ◌-◌, ◌<◌, length, Option, None, Some, Result, Err, Ok}
use Rattle.basis.proofs.Kit.{arith}
use Rattle.basis.proofs.Never.{never}
use Rattle.reply.specs.declared.Refusal.{Refusal}
use Rattle.reply.specs.Outcome.{Outcome, give, refuse, push}
use Rattle.lookups.specs.Lookups.{walking}
use Rattle.entries.specs.declared.Row.{Row}
use Rattle.levels.specs.declared.Event.{Event}
use Rattle.levels.specs.inner.Left.{left, Open, Moves, moves, ends, wrongs}
use Rattle.levels.proofs.StartLaws.{start-open, start_left}

-- the record that was read
record Read (s type bs : List ℕ) (before : Outcome Row) (at : ℕ) (st : List ℕ) (e : Event) : Type 0 where
  pub opens : Open s bs st e.rest
  pub rest : before ≡ push (e.row ∷ []) (left (walking s) s type bs st e.rest.depth e.rest.at)
  pub further : at < e.rest.at

module _ {s type bs : List ℕ} {before : Outcome Row} {at : ℕ} {st : List ℕ} where
  read : {r : Result (Option Event) Refusal} → Moves s type bs before at st r → (e : Event) → r ≡ Ok (Some e)
      → Read s type bs before at st e
  read (moves {e = x} o p h) e q = let same : e ≡ x = cc in rw same (record { opens = o; rest = p; further = h })
  read (ends p) e q = never cc
  read (wrongs p) e q = never cc

  ended : {r : Result (Option Event) Refusal} → Moves s type bs before at st r → r ≡ Ok None → before ≡ give []
  ended (moves o p h) q = never cc
  ended (ends p) q = p
  ended (wrongs p) q = never cc

  wronged : {r : Result (Option Event) Refusal} → Moves s type bs before at st r → (w : Refusal) → r ≡ Err w → before ≡ refuse w
  wronged (moves o p h) w q = never cc
  wronged (ends p) w q = never cc
  wronged (wrongs {w = v} p) w q = let same : w ≡ v = cc in rw same p

module _ (s type bs : List ℕ) (before : Outcome Row) (at : ℕ) (st : List ℕ) (r : Result (Option Event) Refusal)
    (k : Moves s type bs before at st r) where
  module _ (e : Event) (q : r ≡ Ok (Some e)) where
    pub moved_open : Open s bs st e.rest
    moved_open = (read k e q).opens

    pub moved-rest : before ≡ push (e.row ∷ []) (left (walking s) s type bs st e.rest.depth e.rest.at)
    moved-rest = (read k e q).rest

    pub moved-further : at < e.rest.at
    moved-further = (read k e q).further

    -- the measure of a loop over the records
    pub moved-less : length bs - e.rest.at < length bs - at
    moved-less = omega (arith, moved-further, moved_open.inside)

  pub moved-end : r ≡ Ok None → before ≡ give []
  moved-end q = ended k q

  pub moved-wrong : (w : Refusal) → r ≡ Err w → before ≡ refuse w
  moved-wrong w q = wronged k w q

pub ruleset next_facts =
    (start-open, start_left, moved_open, moved-rest, moved-further, moved-less, moved-end, moved-wrong)
