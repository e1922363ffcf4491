-- The verdict of a sheet: 01, Replies, "by over-length, then .. the first fault from the front (a container holds its children's faults; a
-- limit is a fault where it is passed)".
--
--   judge_file s i t a e == one field of a sheet, the i-th, counted from 0
--          judge_files s == the files of a sheet
--         judge_length s == the length of a sheet
--          judge_sheet s == a sheet
--
-- Assumes nothing.
use Rattle.std.specs.Prelude.{true, false, List, ℕ, eqb, ltb, length}
use Rattle.basis.specs.First.{only_if}
use Rattle.limits.specs.Figures.{most_sheet, most_files, most_messages}
use Rattle.path.specs.Path.{is_rel_or_empty}
use Rattle.reply.specs.declared.Refusal.TheVariants.{BadSheet}
use Rattle.reply.specs.Verdicts.{first_fault, beyond, Verdict, fine}
use Rattle.field.specs.Walk.{walk}
use Rattle.field.specs.Leaf.{on_leaf, leaf_at}
use Rattle.form.specs.Each.{each_from}
use Rattle.sheet.specs.Table.{file_tag, package_tag}
use Rattle.messageform.specs.Form.{bad_sheet, judge_items}

-- tag 01: "10 package, then any of 02, 03, 04"; "8 files"; package may be empty [FORM-2, LIMIT-1, FAULT-5]
unfoldable pub judge_file : (s : List ℕ) (index tag from to : ℕ) → Verdict
judge_file s i t a e = elim (eqb t file_tag) [
  | true ↦ elim (ltb i most_files) [
    | true ↦ on_leaf bad_sheet (leaf_at package_tag is_rel_or_empty s a e) λ pack. judge_items most_messages false s pack.to e
    | false ↦ beyond
  ]
  | false ↦ bad_sheet
]

-- "A sheet is files or none" [FORM-2]
unfoldable pub judge_files : (s : List ℕ) → Verdict
judge_files s = each_from BadSheet (judge_file s) 0 (walk s 0 (length s))

-- "sheet 32,768 bytes" [LIMIT-1]
unfoldable pub judge_length : (s : List ℕ) → Verdict
judge_length s = only_if (ltb most_sheet (length s)) beyond fine

-- "each by over-length, then .. the first fault from the front" [FORM-2, LIMIT-1, FAULT-2]
unfoldable pub judge_sheet : (s : List ℕ) → Verdict
judge_sheet s = first_fault (judge_length s) (judge_files s)
