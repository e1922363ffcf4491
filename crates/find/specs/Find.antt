-- The call `find`: an extension by its path in a scope, of any sheet; and `find_tested`, of a sheet whose form was tested before.
--
--         judge_all v c p == the first fault of the sheet, which is judged v, the scope c and the path p, in this order
--             unless v r == r, or the refusal of the verdict v
--      finding_by v s c p == the extension that the path p finds in the scope c of the sheet s, which is judged v, or why there is none
--          finding s c p == the same, where the whole form of the sheet is judged
--    finding_tested s c p == the same, where its length is judged
--              words_of f == the ten words of an extension
--               worded r == these words for the lent memory, or the refusal
--        find_words s c p == what `find` comes to
--       find_tested s c p == what `find_tested` comes to
--             name_span r == where the found extension's name stands in the sheet; no bytes at its start where there is none
--    name_span_for s t c p == where the name of what is found stands, of a scope and a path that are spans of the request t; no bytes at the
--                           sheet's start where they are not
--
-- Assumes nothing.
use Rattle.std.specs.Prelude.{List, [], ◌∷◌, ℕ, ◌-◌, Err, Ok, Result}
use Rattle.octets.specs.Octets.{part}
use Rattle.reply.specs.Verdicts.{first_fault, Verdict}
use Rattle.reply.specs.Outcome.{Outcome, refuse, give}
use Rattle.field.specs.declared.Span.{Span}
use Rattle.field.specs.Leaf.{on_leaf}
use Rattle.field.specs.Part.{no_bytes, span_in}
use Rattle.sheetform.specs.Form.{judge_length, judge_sheet}
use Rattle.requestform.specs.Form.{judge_scope, judge_path}
use Rattle.search.specs.declared.extension.Found.{Found}
use Rattle.search.specs.Lookup.{find_extension_by_path}
use Rattle.reply.specs.declared.Refusal.{Refusal}

-- 01, Replies: "Inputs in the order a call names them, the sheet first" [FAULT-1, FIND-1]
unfoldable pub judge_all : (v : Verdict) (c p : List ℕ) → Verdict
judge_all v c p = first_fault v (first_fault (judge_scope c) (judge_path p))

abbrev pub unless : Verdict → Result Found Refusal → Result Found Refusal
unless (Ok _) r = r
unless (Err w) r = Err w

unfoldable pub finding_by : (v : Verdict) (s c p : List ℕ) → Result Found Refusal
finding_by v s c p = unless (judge_all v c p) (find_extension_by_path s c p)

abbrev pub finding : (s c p : List ℕ) → Result Found Refusal
finding s c p = finding_by (judge_sheet s) s c p

abbrev pub finding_tested : (s c p : List ℕ) → Result Found Refusal
finding_tested s c p = finding_by (judge_length s) s c p

-- file index, place and length of the name, place and length of the extendee, number, type, label, place and length of the type path,
-- which are 0 where there is none
unfoldable pub words_of : Found → List ℕ
words_of f =
    f.file
    ∷ f.declaration.name.from ∷ (f.declaration.name.to - f.declaration.name.from)
    ∷ f.declaration.extendee.from ∷ (f.declaration.extendee.to - f.declaration.extendee.from)
    ∷ f.declaration.shape.number ∷ f.declaration.shape.typ ∷ f.declaration.shape.label
    ∷ f.declaration.shape.path.from ∷ (f.declaration.shape.path.to - f.declaration.shape.path.from) ∷ []

abbrev pub worded : Result Found Refusal → Outcome ℕ
worded (Ok f) = give (words_of f)
worded (Err w) = refuse w

unfoldable pub find_words : (s c p : List ℕ) → Outcome ℕ
find_words s c p = worded (finding s c p)

unfoldable pub find_tested : (s c p : List ℕ) → Outcome ℕ
find_tested s c p = worded (finding_tested s c p)

-- 01, The search: "Its name is handed back as the sheet's own bytes, never the request's" [SEARCH-9]
abbrev pub name_span : Result Found Refusal → Span
name_span (Ok f) = f.declaration.name
name_span (Err w) = no_bytes

unfoldable pub name_span_for : (s t : List ℕ) (c p : Span) → Span
name_span_for s t c p = on_leaf no_bytes (span_in t c) λ q. on_leaf no_bytes (span_in t p) λ u. name_span (finding s (part t q.from q.to) (part t u.from u.to))
