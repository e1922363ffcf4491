-- What the functions of the options of a request answer and leave.
--
--                   options_of r h ==  the options of the request r, which start as h says
--              gathered_by L s r h ==  what they come to
--                      knowns_of g ==  the builtins that are known by then; of a refusal none
--                 set_by L s r h o ==  the record of the builtin that the option o sets
--              set_where L s r h x ==  that of the option x, where it is one
--                made_at L s r h i ==  the record of the builtin that the i-th option sets
--              held_from v ns i os ==  the record of the first of the options os, the i-th first, whose note is v
--             held_by L s r h ns v ==  that of all the options
--                    FineFrom r h <-> the options stand in the request r, and are fine
--                     tally n e ==  the answer of n options, whose records end at e
--   Gathers made k g at l l' ns y <-> the options came to g, and y was answered: where they are gathered, the other records are laid over
--                                    l, from `at` on, the notes ns are those of the known builtins, and all have at most k bytes
--
-- Assumes nothing.
use Rattle.std.specs.Prelude.{◌≡◌, List, [], ◌∷◌, ℕ, ◌+◌, ◌≤◌, eqb, length, get_or, Ok, Err, Result}
use Rattle.std.proofs.Math.ListN.{get_elem?}
use mathlib.Core.Option as option
use Rattle.basis.specs.First.{only_if}
use Rattle.limits.specs.Figures.{most_options}
use Rattle.octets.specs.inner.Laid.{Laid}
use Rattle.reply.specs.declared.Refusal.TheVariants.{BadRequest}
use Rattle.field.specs.Leaf.{text}
use Rattle.field.specs.Walk.{walk}
use Rattle.form.specs.Each.{each_from}
use Rattle.request.specs.Request.{RequestOption, options_in}
use Rattle.optionform.specs.Form.{judge_option}
use Rattle.records.specs.Records.{Recs, nil, append, encode}
use Rattle.lookups.specs.Lookups.{Lookups}
use Rattle.known.specs.Known.{Known, known_recs}
use Rattle.known.specs.inner.Notes.{Noted}
use Rattle.options.specs.declared.settle.Start.{Start}
use Rattle.reply.specs.declared.Cause.{Cause}
use Rattle.options.specs.declared.Tally.{Tally}
use Rattle.options.specs.Settle.{settle}
use Rattle.options.specs.inner.Settling.{message_of, set_recs}
use Rattle.options.specs.Options.{Gathered, gathered, stopped, gather}
use Rattle.reply.specs.Verdicts.{fine}

unfoldable pub options_of : (r : List ℕ) → Start → List RequestOption
options_of r h = options_in r (walk r h.options (length r))

abbrev pub knowns_of : Gathered → List Known
knowns_of (gathered ks x) = ks
knowns_of (stopped e) = []

module _ (L : Lookups) (s r : List ℕ) (h : Start) where
  unfoldable pub gathered_by : Gathered
  gathered_by = gather L s r (text r h.scope) (message_of r h) 0 [] nil (options_of r h)

  abbrev pub set_by : RequestOption → Recs
  set_by o = set_recs (settle L s r (text r h.scope) (message_of r h) o)

  abbrev pub set_where : option.Option RequestOption → Recs
  set_where option.none = nil
  set_where (option.some o) = set_by o

  unfoldable pub made_at : (option : ℕ) → Recs
  made_at i = set_where (get_elem? (options_of r h) i)

  abbrev pub held_from : (note : ℕ) (notes : List ℕ) (option : ℕ) → List RequestOption → Recs
  held_from v ns i [] = nil
  held_from v ns i (o ∷ os) = only_if (eqb (get_or ns i 0) v) (set_by o) (held_from v ns (i + 1) os)

  unfoldable pub held_by : (notes : List ℕ) (note : ℕ) → Recs
  held_by ns v = held_from v ns 0 (options_of r h)

pub record FineFrom (r : List ℕ) (h : Start) : Type 0 where
  pub inside : h.options ≤ length r
  pub fine : each_from BadRequest (judge_option r) 0 (walk r h.options (length r)) ≡ fine

abbrev pub tally : (count end : ℕ) → Tally
tally n e = record { count = n; end = e }

pub data Gathers (made : ℕ → Recs) (k : ℕ) : Gathered → (at : ℕ) (l l' ns : List ℕ) → Result Tally Cause → Type 0 where
  gives : {ks : List Known} {x : Recs} {at n next : ℕ} {l l' ns : List ℕ} → Laid l at (encode x) l' next → Noted made ns n ks
      → n ≤ most_options → length (encode (append (known_recs ks) x)) ≤ k → Gathers made k (gathered ks x) at l l' ns (Ok (tally n next))
  stops : {e : Cause} {at : ℕ} {l l' ns : List ℕ} → Gathers made k (stopped e) at l l' ns (Err e)
