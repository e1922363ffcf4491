-- What every loop over sibling fields needs of its reader: three facts of each whole field that it gives, from which the others follow.
--
--   Ahead at end from to <-> the payload from..to starts further on than `at`, is in order, and lies inside: at < from ≤ to ≤ end
--             Reads next <-> so does each whole field that `next` gives at a place, up to an end
--
-- The laws, of a whole field that was read at the place `at` and whose payload is a..e, so that e is the next place:
--    reads-ahead  the three facts
--  reads-ordered  the payload ends no earlier than it starts
--   reads-inside  it ends no later than `end`
--   reads-within  so it lies in the bytes, if the end does
--     reads-less  less is left from the next place on
-- A reader's ruleset is one of the loops' (Rest, Seek, Tally; EachLaws in `form`) with `reads_laws` and the proof of `Reads` for it.
--
-- Assumes nothing.
use Rattle.std.specs.Prelude.{◌≡◌, List, ℕ, ◌-◌, ◌≤◌, ◌<◌, length, Some, Option}
use Rattle.basis.specs.Kit.{sym, ◌∙◌}
use Rattle.basis.proofs.Kit.{arith}
use Rattle.field.specs.Walk.{Reader}
use Rattle.field.specs.declared.Field.{Field}

-- an empty payload too starts further on: past its header
pub record Ahead (at end from to : ℕ) : Type 0 where
  pub starts : at < from
  pub ordered : from ≤ to
  pub inside : to ≤ end

pub record Reads (next : Reader) : Type 0 where
  pub ahead : (s : List ℕ) (at end : ℕ) (f : Field) → next s at end ≡ Some f → Ahead at end f.from f.to

module _ {next : Reader} (reads : Reads next) (s : List ℕ) (at end : ℕ) (r : Option Field) (q : r ≡ next s at end) (f : Field)
    (g : r ≡ Some f) where
  pub reads-ahead : Ahead at end f.from f.to
  reads-ahead = reads.ahead s at end f (sym q ∙ g)

  pub reads-ordered : f.from ≤ f.to
  reads-ordered = reads-ahead.ordered

  pub reads-inside : f.to ≤ end
  reads-inside = reads-ahead.inside

  pub reads-within : end ≤ length s → f.to ≤ length s
  reads-within h = omega (arith, reads-inside)

  pub reads-less : at < end → end - f.to < end - at
  reads-less h = omega (arith, reads-ahead.starts, reads-ordered)

pub ruleset reads_laws = (reads-ordered, reads-within, reads-less)
