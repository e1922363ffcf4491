-- Rows as words.
--
--          worded o ==  the words of the rows of o, or its refusal
--   WroteAtMost n r <-> where the writer that answered r wrote words, the place after them is at most n
--
-- Assumes nothing.
use Rattle.std.specs.Prelude.{ℕ, ◌≤◌, Err, Ok, Result}
use Rattle.reply.specs.Outcome.{Outcome, refused, nothing, give}
use Rattle.entries.specs.declared.Row.{Row}
use Rattle.entries.specs.Tree.{words_of}
use Rattle.reply.specs.declared.Cause.{Cause}

abbrev pub worded : Outcome Row → Outcome ℕ
worded (give rs) = give (words_of rs)
worded nothing = nothing
worded (refused c) = refused c

-- a count of words has to fit the answer
unfoldable pub WroteAtMost : (most : ℕ) → Result ℕ Cause → Type 0
WroteAtMost most (Ok n) = n ≤ most
WroteAtMost most (Err c) = Unit {0}
