-- What the words of an extension need: its places are ordered, and each fits a word.
--
--     word_bound ==  what a word is below
--   SmallSpan p <-> the span ends no earlier than it starts, and below that
--       Small f <-> so do all spans of the extension, and its file's index is below that
--
-- Assumes nothing.
use Rattle.std.specs.Prelude.{ℕ, ◌^◌, ◌≤◌, ◌<◌}
use Rattle.field.specs.declared.Span.{Span}
use Rattle.search.specs.declared.extension.Found.{Found}

abbrev pub word_bound : ℕ
word_bound = 2 ^ 32

pub record SmallSpan (p : Span) : Type 0 where
  pub ordered : p.from ≤ p.to
  pub below : p.to < word_bound

pub record Small (f : Found) : Type 0 where
  pub file : f.file < word_bound
  pub name : SmallSpan f.declaration.name
  pub extendee : SmallSpan f.declaration.extendee
  pub path : SmallSpan f.declaration.shape.path
