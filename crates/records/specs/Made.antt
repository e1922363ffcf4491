-- What comes of a constant or of an option: records, or why there are none.
--
--      Made W == records, or what is wrong, a W
--   after a m == the records a and then m
--    both m n == m and then n, the first that is wrong being the answer
--   holding n m == one message record of the number n that holds the records m
--
-- Assumes nothing.
use Rattle.std.specs.Prelude.{ℕ}
use Rattle.records.specs.Records.{Recs, nil, message, append}

pub data Made (W : Type 0) : Type 0 where
  made : Recs → Made W
  wrong : W → Made W

-- 01, Replies: "a constant's parts as written, the first fault answered" [VALUE-14]
abbrev pub after : {W : Type 0} (front : Recs) → Made W → Made W
after a (made b) = made (append a b)
after a (wrong w) = wrong w

abbrev pub both : {W : Type 0} (front rest : Made W) → Made W
both (made a) m = after a m
both (wrong w) m = wrong w

abbrev pub holding : {W : Type 0} (field : ℕ) → Made W → Made W
holding n (made i) = made (message n i nil)
holding n (wrong w) = wrong w
