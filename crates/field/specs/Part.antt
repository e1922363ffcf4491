-- A part of lent bytes that is handed back: which bytes, and where they stand. The place of a reference is a block of memory and an offset
-- in it.
--
--   PartOf p s b o t b' o' <-> the bytes t, in the block b' at the offset o', are the span p of the bytes s, which stand in the block b at
--                              the offset o: no copy of them, and no equal bytes elsewhere
--                no_bytes ==  no bytes, at the start
--             span_in t p ==  the two places of the span, where it is one of the bytes t
--
-- Assumes nothing.
use Rattle.std.specs.Prelude.{◌≡◌, ◌&&◌, List, ℕ, ◌+◌, leb, length, None, Some, Option}
use Rattle.basis.specs.First.{only_if}
use Rattle.field.specs.declared.Span.{Span}
use Rattle.field.specs.Leaf.{span, text}

pub record PartOf (p : Span) (s : List ℕ) (b o : ℕ) (t : List ℕ) (b' o' : ℕ) : Type 0 where
  pub bytes : t ≡ text s p
  pub block : b' ≡ b
  pub offset : o' ≡ o + p.from

-- on a refusal a part is empty, and starts where the lent bytes do
abbrev pub no_bytes : Span
no_bytes = span 0 0

unfoldable pub span_in : (t : List ℕ) (p : Span) → Option Span
span_in t p = only_if (leb p.from p.to && leb p.to (length t)) (Some (span p.from p.to)) None
