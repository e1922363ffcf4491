-- The verdict of an option and of its name: 01, Replies, "the first fault from the front (a container holds its children's faults; a limit
-- is a fault where it is passed)".
--
--   next_part s n at p rest == one part, n before it, and what is said of the rest
--       parts_from s n at w == the parts that the fields w begin with, n before them: where they end, or the first fault
--          last_field s e f == the field f, as the constant that an option ends with
--         judge_last s at e == the constant that an option ends with
--        after_name s a e p == an option whose parts come to p
--    judge_option s i t a e == one field of a request after its heading, the i-th, counted from 0
--
-- Assumes nothing.
use Rattle.std.specs.Prelude.{true, false, List, ℕ, ◌+◌, eqb, ltb, Err, None, Some, Ok, Option, Result}
use Rattle.limits.specs.Figures.{most_options, most_parts, most_constants}
use Rattle.reply.specs.declared.Refusal.TheVariants.{BadRequest, BeyondLimit}
use Rattle.reply.specs.Verdicts.{first_fault, judged, beyond, Verdict}
use Rattle.field.specs.Field.{field_at}
use Rattle.field.specs.Walk.{Walk, done, cut, step, walk}
use Rattle.field.specs.Leaf.{text}
use Rattle.request.specs.Table.{option_tag}
use Rattle.request.specs.Name.{part_of}
use Rattle.constantform.specs.Form.{bad_request, judge_constant}
use Rattle.constantform.specs.Leaves.{good_part}
use Rattle.field.specs.declared.Field.{Field}
use Rattle.reply.specs.declared.Refusal.{Refusal}
use Rattle.request.specs.declared.name.Part.{Part}

-- "16 parts a name" [LIMIT-1, FAULT-5, FAULT-6]
abbrev pub next_part : (s : List ℕ) (before at : ℕ) → Option Part → (rest : Result ℕ Refusal) → Result ℕ Refusal
next_part s n at None rest = Ok at
next_part s n at (Some p) rest = elim (ltb n most_parts) [
  | true ↦ elim (good_part p.extension (text s p.name)) [ true ↦ rest | false ↦ Err BadRequest ]
  | false ↦ Err BeyondLimit
]

abbrev pub parts_from : (s : List ℕ) (before at : ℕ) → Walk → Result ℕ Refusal
parts_from s n at done = Ok at
parts_from s n at cut = Ok at
parts_from s n at (step t a e w) = next_part s n at (part_of t a e) (parts_from s (n + 1) e w)

abbrev pub last_field : (s : List ℕ) (end : ℕ) → Option Field → Verdict
last_field s end None = bad_request
last_field s end (Some f) = first_fault (judge_constant most_constants s f.tag f.from f.to) (judged BadRequest (eqb f.to end))

unfoldable pub judge_last : (s : List ℕ) (at end : ℕ) → Verdict
judge_last s at end = last_field s end (field_at s at end)

-- tag 08: "one or more of 1A direct part, 1B extension part; one constant" [FORM-2, FAULT-7]
abbrev pub after_name : (s : List ℕ) (from to : ℕ) → Result ℕ Refusal → Verdict
after_name s a e (Err w) = Err w
after_name s a e (Ok at) = elim (eqb at a) [ true ↦ bad_request | false ↦ judge_last s at e ]

-- "at most 128 options in a request" [FORM-2, LIMIT-1, FAULT-5]
unfoldable pub judge_option : (s : List ℕ) (index tag from to : ℕ) → Verdict
judge_option s i t a e = elim (eqb t option_tag) [
  | true ↦ elim (ltb i most_options) [ true ↦ after_name s a e (parts_from s 0 a (walk s a e)) | false ↦ beyond ]
  | false ↦ bad_request
]
