-- The verdict of an enum, of a message, and of what a file or a message holds: 01, Replies, "the first fault from the front (a container
-- holds its children's faults; a limit is a fault where it is passed)".
--
--                         bad_sheet == a fault of form
--               judge_value s t a e == one field of an enum, after its name
--                  judge_enum s a e == an enum
--   judge_item inner fields s t a e == one field of a file or, where `fields` holds, of a message; `inner` judges a message
--             judge_message d s a e == a message, with d levels of messages left
--        judge_items d fields s a e == what a file holds after its package, or a message after its name, with d levels left
--
-- Assumes nothing.
use Rattle.std.specs.Prelude.{Bool, true, false, List, ℕ, zero, suc, eqb, Err}
use Rattle.ident.specs.Ident.{is_ident}
use Rattle.reply.specs.declared.Refusal.TheVariants.{BadSheet}
use Rattle.reply.specs.Verdicts.{judged, beyond, Verdict}
use Rattle.field.specs.Walk.{walk}
use Rattle.field.specs.Leaf.{on_leaf, leaf_at}
use Rattle.form.specs.Each.{each}
use Rattle.sheet.specs.Table.{message_tag, extension_tag, enum_tag, field_tag, value_tag, name_tag}
use Rattle.declform.specs.Declarations.{is_extension, is_field, is_value}

abbrev pub bad_sheet : Verdict
bad_sheet = Err BadSheet

-- tag 04: "11, then 06 values" [FORM-2, FAULT-5]
unfoldable pub judge_value : (s : List ℕ) (tag from to : ℕ) → Verdict
judge_value s t a e = elim (eqb t value_tag) [ true ↦ judged BadSheet (is_value s a e) | false ↦ bad_sheet ]

unfoldable pub judge_enum : (s : List ℕ) (from to : ℕ) → Verdict
judge_enum s a e = on_leaf bad_sheet (leaf_at name_tag is_ident s a e) λ name. each BadSheet (judge_value s) (walk s name.to e)

-- "any of 02, 03, 04" in a file, "any of 02, 03, 04, 05" in a message [FORM-2, FAULT-5]
unfoldable pub judge_item : (inner : (from to : ℕ) → Verdict) (fields : Bool) (s : List ℕ) (tag from to : ℕ) → Verdict
judge_item inner fields s t a e = elim (eqb t message_tag) [
  | true ↦ inner a e
  | false ↦ elim (eqb t extension_tag) [
    | true ↦ judged BadSheet (is_extension s a e)
    | false ↦ elim (eqb t enum_tag) [
      | true ↦ judge_enum s a e
      | false ↦ elim (eqb t field_tag) [
        | true ↦ elim fields [ true ↦ judged BadSheet (is_field s a e) | false ↦ bad_sheet ]
        | false ↦ bad_sheet
      ]
    ]
  ]
]

-- tag 02: "11 name, then any of 02, 03, 04, 05"; "messages 16 deep", "The outermost message .. is depth 1" [FORM-2, LIMIT-1, LIMIT-2]
abbrev pub judge_message : (left : ℕ) (s : List ℕ) (from to : ℕ) → Verdict
judge_message zero s a e = beyond
judge_message (suc d) s a e =
    on_leaf bad_sheet (leaf_at name_tag is_ident s a e) λ name. each BadSheet (judge_item (judge_message d s) true s) (walk s name.to e)

unfoldable pub judge_items : (left : ℕ) (fields : Bool) (s : List ℕ) (from to : ℕ) → Verdict
judge_items d fields s a e = each BadSheet (judge_item (judge_message d s) fields s) (walk s a e)
