-- The value query, from 01's "Listing and lowering".
--
--                 answered o == the words of the row o, or Absent
--          on_named joins n t == what a name that comes to n answers in the records t
--    on_records joins L s q u == what the name q answers in the records u
--   query_of joins L s t q bs == what the query comes to, of any look-ups, and whichever declarations join their records
--       judge_inputs v t q bs == the first fault of the sheet, which is judged v, the options type, the name and the option bytes' length
--         query_by v s t q bs == what a query under the sheet s, which is judged v, comes to
--             query s t q bs == what `query` comes to
--       query_tested s t q bs == what `query_tested` comes to, where of the sheet the length alone is judged
--
-- Assumes nothing.
use Rattle.std.specs.Prelude.{Bool, List, ℕ, length, Option, None, Some}
use Rattle.reply.specs.Verdicts.{first_fault, Verdict}
use Rattle.reply.specs.Outcome.{Outcome, refused, refuse, unless, nothing, give}
use Rattle.field.specs.Walk.{walk}
use Rattle.sheet.specs.declared.declaration.Declaration.{Declaration}
use Rattle.sheetform.specs.Form.{judge_length, judge_sheet}
use Rattle.request.specs.Name.{parts_in}
use Rattle.requestform.specs.Form.{judge_options_type, judge_name}
use Rattle.lookups.specs.Lookups.{Lookups, walking}
use Rattle.entries.specs.declared.Row.{Row}
use Rattle.entries.specs.Tree.{Tree, words}
use Rattle.payload.specs.Payload.{judge_bytes}
use Rattle.entries.specs.Reading.{Under, under, refused_by, records_of}
use Rattle.following.specs.Reached.{never, reached}
use Rattle.naming.specs.Name.{Named, names, group, refused_at, of_part, declarations}

-- "It answers that record's eight words, or Absent where there is none or parts are left on a group." [QUERY-6]
abbrev pub answered : Option Row → Outcome ℕ
answered None = nothing
answered (Some r) = give (words r)

module _ (joins : Declaration → Bool) where
  abbrev pub on_named : Named → Tree → Outcome ℕ
  on_named (refused_at i w) t = refused (of_part i w)
  on_named group t = nothing
  on_named (names ds) t = answered (reached joins 0 ds t)

  abbrev pub on_records : Lookups → (s name : List ℕ) → Under → Outcome ℕ
  on_records L s q (refused_by w) = refuse w
  on_records L s q (under m t) = on_named (declarations L s q 0 m (parts_in (walk q 0 (length q)))) t

  -- the bytes as in listing, then the whole name by the steps, whatever the bytes hold [QUERY-2, QUERY-3]
  unfoldable pub query_of : Lookups → (s type name bs : List ℕ) → Outcome ℕ
  query_of L s type q bs = on_records L s q (records_of L s type bs)

-- "Value query: sheet, options type, a name as in 08, bytes, refused in that order" [QUERY-1, QUERY-2]
unfoldable pub judge_inputs : Verdict → (type name bs : List ℕ) → Verdict
judge_inputs v type q bs = first_fault v (first_fault (judge_options_type type) (first_fault (judge_name q) (judge_bytes bs)))

unfoldable pub query_by : Verdict → (s type name bs : List ℕ) → Outcome ℕ
query_by v s type q bs = unless (judge_inputs v type q bs) (query_of never (walking s) s type q bs)

abbrev pub query : (s type name bs : List ℕ) → Outcome ℕ
query s type q bs = query_by (judge_sheet s) s type q bs

abbrev pub query_tested : (s type name bs : List ℕ) → Outcome ℕ
query_tested s type q bs = query_by (judge_length s) s type q bs
