-- The calls `list` and `list_tested`, from 01's "Listing and lowering".
--
--      judge_inputs v type bs == the first fault of the sheet, which is judged v, the options type and the length of the option bytes
--                listed u == the words of the records of u, or its refusal
--      listing_of L s type bs == the words of the records of bs, of any look-ups
--      listing_by v s type bs == what a listing under the sheet s, which is judged v, comes to
--        listing s type bs == what `list` comes to
--   listing_tested s type bs == what `list_tested` comes to, where of the sheet the length alone is judged
--
-- Assumes nothing.
use Rattle.std.specs.Prelude.{List, ℕ}
use Rattle.reply.specs.Verdicts.{first_fault, Verdict}
use Rattle.reply.specs.Outcome.{Outcome, refuse, unless, give}
use Rattle.sheetform.specs.Form.{judge_length, judge_sheet}
use Rattle.requestform.specs.Form.{judge_options_type}
use Rattle.lookups.specs.Lookups.{Lookups, walking}
use Rattle.entries.specs.Tree.{rows, words_of}
use Rattle.payload.specs.Payload.{judge_bytes}
use Rattle.entries.specs.Reading.{Under, under, refused_by, records_of}

-- 01, Replies: "Inputs in the order a call names them, the sheet first, each by over-length, then (option bytes apart) the first fault"
-- [FAULT-1, FAULT-2]
unfoldable pub judge_inputs : Verdict → (type bs : List ℕ) → Verdict
judge_inputs v type bs = first_fault v (first_fault (judge_options_type type) (judge_bytes bs))

abbrev pub listed : Under → Outcome ℕ
listed (refused_by w) = refuse w
listed (under m t) = give (words_of (rows 0 t))

abbrev pub listing_of : Lookups → (s type bs : List ℕ) → Outcome ℕ
listing_of L s type bs = listed (records_of L s type bs)

-- "the first fault from the front is answered, room last" [LIST-1, LIST-11]
unfoldable pub listing_by : Verdict → (s type bs : List ℕ) → Outcome ℕ
listing_by v s type bs = unless (judge_inputs v type bs) (listing_of (walking s) s type bs)

abbrev pub listing : (s type bs : List ℕ) → Outcome ℕ
listing s type bs = listing_by (judge_sheet s) s type bs

abbrev pub listing_tested : (s type bs : List ℕ) → Outcome ℕ
listing_tested s type bs = listing_by (judge_length s) s type bs
