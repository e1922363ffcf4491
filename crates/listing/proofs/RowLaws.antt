-- Rows as words: the loop of `put_rows`.
-- Assumes nothing.
use Rattle.std.specs.Prelude.{◌≡◌, refl, List, [], ◌∷◌, ℕ, ◌+◌, ◌*◌, ◌^◌, ◌≤◌, ◌<◌, length, Err, Ok, Result, None, Some, Option}
use Rattle.basis.specs.Kit.{sym, ap, ◌∙◌, sets}
use Rattle.basis.proofs.Kit.{arith}
use Rattle.reply.specs.declared.Refusal.{Refusal}
use Rattle.reply.specs.declared.Cause.{Cause}
use Rattle.reply.specs.Reply.{bare}
use Rattle.reply.specs.Outcome.{Outcome, refused, nothing, give, push}
use Rattle.emit.specs.inner.Puts.{Puts}
use Rattle.emit.proofs.WriteLaws.{Front, front-start, front-put, front_length, front-refused, front-done}
use Rattle.limits.specs.Figures.{most_option_bytes, most_levels}
use Rattle.scope.specs.declared.lookup.LookupScope.{LookupScope}
use Rattle.scope.specs.inner.Answers.{InSheet}
use Rattle.lookups.specs.Lookups.{walking}
use Rattle.entries.specs.Reading.{reading}
use Rattle.entries.specs.inner.Fronts.{message}
use Rattle.entries.specs.declared.Row.{Row}
use Rattle.entries.specs.Tree.{words}
use Rattle.levels.specs.declared.Cursor.{Cursor}
use Rattle.levels.specs.declared.Event.{Event}
use Rattle.levels.specs.inner.Left.{flat, left, Open, Starts, Moves}
use Rattle.levels.proofs.StartLaws.{start-open, start_left}
use Rattle.levels.proofs.MovesLaws.{moved_open, moved-rest, moved-further, moved-less, moved-end, moved-wrong}
use Rattle.listing.specs.inner.Worded.{worded, WroteAtMost}

pub worded-push : (x : Row) (o : Outcome Row) → worded (push (x ∷ []) o) ≡ push (words x) (worded o)
worded-push x (give rs) = refl
worded-push x nothing = refl
worded-push x (refused c) = refl

-- ---- the loop: the rows before the cursor are written as n words, eight a row, and every row takes a byte at least
pub record Rowing (s type bs : List ℕ) (whole : Outcome Row) (st : List ℕ) (c : Cursor) (l l' : List ℕ) (n : ℕ) : Type 0 where
  pub opens : Open s bs st c
  pub few : n ≤ 8 * c.at
  pub laid : Front (worded whole) (worded (left (walking s) s type bs st c.depth c.at)) 0 l l' n

module _ (p : LookupScope) (bs st : List ℕ) (c : Cursor) (k : Starts p bs st c) (s type l : List ℕ) where
  pub rowing_start : InSheet s p → length bs ≤ most_option_bytes
      → Rowing s type bs (left (walking s) s type bs st c.depth c.at) st c l l 0
  rowing_start y h = record { opens = start-open p bs st c k s y h; few = omega arith; laid = front-start _ 0 l }

  pub rowing-all : (l' : List ℕ) (r : Result ℕ Cause) → Puts (worded (left (walking s) s type bs st c.depth c.at)) 0 l l' r
      → Puts (worded (flat 0 (reading (walking s) s most_levels (message type p) 0 bs))) 0 l l' r
  rowing-all l' r h = rw (← (start_left p bs st c k (walking s) s type)) h

module _ (s type bs : List ℕ) (whole : Outcome Row) (st : List ℕ) (c : Cursor) (l m : List ℕ) (n : ℕ)
    (u : Rowing s type bs whole st c l m n) where
  pub rowing-open : Open s bs st c
  rowing-open = u.opens

  pub rowing-fits : n < 2 ^ 63
  rowing-fits = omega (arith, u.few, u.opens.inside, u.opens.short)

  pub rowing-few : WroteAtMost (8 * length bs) (Ok n)
  unfolding WroteAtMost
  rowing-few = omega (arith, u.few, u.opens.inside)

  pub rowing-length : length m ≡ length l
  rowing-length = front_length _ _ 0 l m n u.laid

  module _ (st' : List ℕ) (r : Result (Option Event) Refusal)
      (k : Moves s type bs (left (walking s) s type bs st c.depth c.at) c.at st' r) where
    pub rowing-end : r ≡ Ok None → Puts (worded whole) 0 l m (Ok n)
    rowing-end g = front-done _ _ 0 l m n u.laid (ap worded (moved-end s type bs _ c.at st' r k g))

    pub rowing-wrong : (w : Refusal) → r ≡ Err w → (x : Cause) → x ≡ bare w → Puts (worded whole) 0 l m (Err x)
    rowing-wrong w g x e =
        front-refused _ _ 0 l m n u.laid x (ap worded (moved-wrong s type bs _ c.at st' r k w g) ∙ ap refused (sym e))

    module _ (e : Event) (g : r ≡ Ok (Some e)) where
      pub rowing-next : (l' : List ℕ) → l' ≡ sets m n (words e.row) → (n' : ℕ) → n' ≡ n + 8 → Rowing s type bs whole st' e.rest l l' n'
      rowing-next l' q n' i =
          let after = left (walking s) s type bs st' e.rest.depth e.rest.at in
          let row : worded (left (walking s) s type bs st c.depth c.at) ≡ push (words e.row) (worded after) =
          ap worded (moved-rest s type bs _ c.at st' r k e g) ∙ worded-push e.row after in
          record {
            opens = moved_open s type bs _ c.at st' r k e g;
            few = omega (arith, i, u.few, moved-further s type bs _ c.at st' r k e g);
            laid = rw i (front-put _ _ 0 l m n u.laid (words e.row) (worded after) l' row q);
          }

pub refused-few : (most : ℕ) (c : Cause) → WroteAtMost most (Err c)
unfolding WroteAtMost
refused-few most c = tt

pub ruleset rowing_laws =
    (rowing_start, rowing-all, rowing-open, rowing-fits, rowing-few, refused-few, rowing-length, rowing-end, rowing-wrong, rowing-next, moved-less)
