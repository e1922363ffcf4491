-- What a request comes to, from 01's "Option steps".
--
--                  Steps == records, Absent, or a refusal and its place: an option and a part of its name, or nowhere in it
--              steps_in g == what is said of the options that came to g
--   request_steps L s r q == what the request q, which is read from the bytes r, comes to
--          steps_of L s r == what the request that the bytes r are comes to, of any bytes
--      resolving_by v s r == the first fault of the sheet s, which is judged v, and the request r, else what the request comes to
--          resolving s r == the same, where the whole form of the sheet is judged
--    resolving_tested s r == the same, where its length is judged
--
-- Assumes nothing.
use Rattle.std.specs.Prelude.{List, [], ◌∷◌, ℕ, Err, Ok, Result}
use Rattle.reply.specs.Verdicts.{first_fault, Verdict}
use Rattle.field.specs.Leaf.{text}
use Rattle.request.specs.Request.{RequestOption, Request, request_of}
use Rattle.sheetform.specs.Form.{judge_length, judge_sheet}
use Rattle.requestform.specs.Form.{judge_request}
use Rattle.records.specs.Records.{Recs, nil, append}
use Rattle.lookups.specs.Lookups.{Lookups, walking}
use Rattle.known.specs.Known.{known_recs}
use Rattle.reply.specs.declared.Cause.{Cause}
use Rattle.reply.specs.Reply.{bare}
use Rattle.options.specs.Options.{Gathered, gathered, stopped, gather}
use Rattle.reply.specs.declared.Refusal.{Refusal}
use Rattle.scope.specs.declared.lookup.LookupScope.{LookupScope}

pub data Steps : Type 0 where
  records : Recs → Steps
  absent : Steps
  refused : Cause → Steps

-- "Known builtins come first by rising number, then the rest in order of writing." [BYTES-3]
abbrev pub steps_in : Gathered → Steps
steps_in (gathered ks x) = records (append (known_recs ks) x)
steps_in (stopped e) = refused e

module _ (L : Lookups) (s r : List ℕ) where
  abbrev pub on_type : Request → Result LookupScope Refusal → Steps
  on_type q (Err w) = refused (bare w)
  on_type q (Ok p) =
      steps_in (gather L s r (text r q.scope) (record { name = text r q.options_type; place = p }) 0 [] nil q.options)

  -- "No options: Absent, before the options type is looked for." [STEP-1, STEP-2]
  abbrev pub some_options : Request → List RequestOption → Steps
  some_options q [] = absent
  some_options q (o ∷ os) = on_type q (L.message (text r q.options_type))

  abbrev pub request_steps : Request → Steps
  request_steps q = some_options q q.options

  unfoldable pub steps_of : Steps
  steps_of = request_steps (request_of r)

-- ---- a call: 01, Replies, "Inputs in the order a call names them, the sheet first" [ORDER-1]
abbrev pub unless : Verdict → Steps → Steps
unless (Ok _) o = o
unless (Err w) o = refused (bare w)

unfoldable pub resolving_by : Verdict → (s r : List ℕ) → Steps
resolving_by v s r = unless (first_fault v (judge_request r)) (steps_of (walking s) s r)

abbrev pub resolving : (s r : List ℕ) → Steps
resolving s r = resolving_by (judge_sheet s) s r

abbrev pub resolving_tested : (s r : List ℕ) → Steps
resolving_tested s r = resolving_by (judge_length s) s r
