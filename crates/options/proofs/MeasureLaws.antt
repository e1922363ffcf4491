-- What is measured before anything is written: the ways through `gather_length`, `known_length`, `measure_from`, `measure_all` and
-- `measure_tested`.
-- Assumes nothing.
use Rattle.std.specs.Prelude.{◌≡◌, refl, List, ℕ, ◌+◌, ◌≤◌, length, Err, None, Some, Ok, Option, Result}
use Rattle.basis.specs.Kit.{sym, ap, ◌∙◌}
use Rattle.basis.proofs.Kit.{arith, w64, Fits}
use mir.Syntax.{w32}
use mathlib.Core.Path.{subst}
use native.Mathlib.Nat.{zero-add}
use lib.ListN.{length-append}
use Rattle.basis.proofs.Never.{never}
use Rattle.limits.specs.Figures.{most_options}
use Rattle.octets.specs.inner.Laid.{Laid}
use Rattle.reply.specs.declared.Refusal.{Refusal}
use Rattle.sheetform.specs.Form.{judge_length}
use Rattle.requestform.specs.Form.{judge_request}
use Rattle.records.specs.Records.{Recs, append, encode}
use Rattle.records.specs.inner.Emits.{bytes_most, Roomy}
use Rattle.records.proofs.RecsLaws.{encode-append}
use Rattle.lookups.specs.Lookups.{walking}
use Rattle.known.specs.Known.{Known, known_recs}
use Rattle.known.specs.inner.Notes.{Noted}
use Rattle.options.specs.declared.settle.Start.{Start}
use Rattle.reply.specs.declared.Cause.{Cause}
use Rattle.reply.specs.Reply.{bare}
use Rattle.options.specs.declared.Tally.{Tally}
use Rattle.options.specs.inner.Settling.{Started}
use Rattle.options.specs.Options.{Gathered, gathered, stopped}
use Rattle.options.specs.inner.Gathering.{gathered_by, made_at, knowns_of, FineFrom, tally, Gathers, gives, stops}
use Rattle.options.specs.Steps.{Steps, absent, refused, steps_in, steps_of, resolving_by, resolving_tested}
use Rattle.options.specs.inner.Measuring.{Open, Opens, at, none, lost, rest_of, Counted, Tallies, Measures, fine as measured, refuses}
use Rattle.options.specs.inner.Measuring as measuring
use Rattle.options.specs.declared.measure.Measured.{Measured}
use Rattle.reply.specs.Verdicts.{Verdict, fine}

-- ---- what the loop over the options answered
pub record Gave (made : ℕ → Recs) (k : ℕ) (g : Gathered) (at : ℕ) (l l' ns : List ℕ) (n next : ℕ) : Type 0 where
  pub knowns : List Known
  pub rest : Recs
  pub is : g ≡ gathered knowns rest
  pub laid : Laid l at (encode rest) l' next
  pub noted : Noted made ns n knowns
  pub count : n ≤ most_options
  pub few : length (encode (append (known_recs knowns) rest)) ≤ k

pub gathers-gave : {made : ℕ → Recs} {k : ℕ} {g : Gathered} {at : ℕ} {l l' ns : List ℕ} {y : Result Tally Cause} → Gathers made k g at l l' ns y
    → (t : Tally) → y ≡ Ok t → Gave made k g at l l' ns t.count t.end
gathers-gave (gives {ks} {x} {at} {n} {next} a b c d) t e =
    let i : tally n next ≡ t = cc in
    rw (← i) (record { knowns = ks; rest = x; is = refl; laid = a; noted = b; count = c; few = d })
gathers-gave stops t e = never cc

pub gathers-stopped : {made : ℕ → Recs} {k : ℕ} {g : Gathered} {at : ℕ} {l l' ns : List ℕ} {y : Result Tally Cause} → Gathers made k g at l l' ns y
    → (e : Cause) → y ≡ Err e → g ≡ stopped e
gathers-stopped (gives a b c d) w z = never cc
gathers-stopped (stops {e}) w z = let i : e ≡ w = cc in ap stopped i

-- ---- gather_length
pub room-from : (s r : List ℕ) (h : Start) → Started s r h → Roomy 0 (length r) r
room-from s r h k = record { room = omega (arith, k.short) }

pub gathers-tallies : (s r : List ℕ) (h : Start) (l l' ns : List ℕ) (y : Result Tally Cause)
    → Gathers (made_at (walking s) s r h) (bytes_most (length r)) (gathered_by (walking s) s r h) 0 l l' ns y → Tallies s r ns h y
gathers-tallies s r h l l' ns y u = record {
  stops = λ e z. gathers-stopped u e z;
  counts = λ t z.
      let g = gathers-gave u t z in
      record { knowns = g.knowns; rest = g.rest; gathers = g.is; noted = g.noted; count = g.count; few = g.few };
  others = λ t z.
      let g = gathers-gave u t z in
      g.laid.next ∙ zero-add (length (encode g.rest)) ∙ sym (ap (λ (x : Gathered). length (encode (rest_of x))) g.is);
}

pub ruleset gather_length_laws = (room-from, gathers-tallies)

-- ---- known_length, and what `put_records` shares with it
known-within : (ks : List Known) (x : Recs) (n : ℕ) → length (encode (append (known_recs ks) x)) ≤ n → length (encode (known_recs ks)) ≤ n
known-within ks x n h = omega (arith, ap length (encode-append (known_recs ks) x), length-append (encode (known_recs ks)) (encode x))

module _ (s r ns : List ℕ) (h : Start) (n : ℕ) (k : Counted s r ns h n) where
  pub counted-count : n ≤ most_options
  counted-count = k.count

  pub counted-noted : Noted (made_at (walking s) s r h) ns n (knowns_of (gathered_by (walking s) s r h))
  counted-noted = subst (λ (x : Gathered). Noted (made_at (walking s) s r h) ns n (knowns_of x)) (sym k.gathers) k.noted

  pub counted-few : length (encode (known_recs (knowns_of (gathered_by (walking s) s r h)))) ≤ bytes_most (length r)
  counted-few =
      subst (λ (x : Gathered). length (encode (known_recs (knowns_of x))) ≤ bytes_most (length r)) (sym k.gathers)
      (known-within k.knowns k.rest (bytes_most (length r)) k.few)

pub laid-length : (bs m m' : List ℕ) (p : ℕ) → Laid m 0 bs m' p → p ≡ length bs
laid-length bs m m' p c = c.next ∙ zero-add (length bs)

pub ruleset known_length_laws = (room-from, counted-count, counted-noted, counted-few, laid-length)

-- ---- measure_from
module _ (s r ns : List ℕ) (h : Start) (y : Result Tally Cause) (u : Tallies s r ns h y) where
  pub tallied-refused : (e : Cause) → y ≡ Err e → Measures s r (steps_in (gathered_by (walking s) s r h)) ns (Err e)
  tallied-refused e z = rw (u.stops e z) refuses

  module _ (t : Tally) (z : y ≡ Ok t) where
    pub tallied-counted : Counted s r ns h t.count
    tallied-counted = u.counts t z

    module _ (p : ℕ) (q : p ≡ length (encode (known_recs (knowns_of (gathered_by (walking s) s r h))))) (g : Started s r h) where
      sum_is : p + t.end ≡ length (encode (append (known_recs tallied-counted.knowns) tallied-counted.rest))
      sum_is =
          let k = tallied-counted in
          omega (
            arith,
            q,
            u.others t z,
            ap (λ (x : Gathered). length (encode (known_recs (knowns_of x)))) k.gathers,
            ap (λ (x : Gathered). length (encode (rest_of x))) k.gathers,
            ap length (encode-append (known_recs k.knowns) k.rest),
            length-append (encode (known_recs k.knowns)) (encode k.rest),
          )

      pub tallied-sum : Fits w64 (p + t.end)
      tallied-sum = record { fits = omega (arith, sum_is, tallied-counted.few, g.short) }

      pub tallied-length : Fits w32 (p + t.end)
      tallied-length = record { fits = omega (arith, sum_is, tallied-counted.few, g.short) }

      pub tallied-fine : FineFrom r h
          → Measures s r (steps_in (gathered_by (walking s) s r h)) ns (Ok (Some (record { start = h; count = t.count; length = p + t.end })))
      tallied-fine b = measured (record { counted = tallied-counted; started = g; fine = b; length-is = sum_is })

pub ruleset measure_from_laws = (tallied-refused, tallied-counted, tallied-sum, tallied-length, tallied-fine)

-- ---- measure_all
opened-at : {s r : List ℕ} {v : Result (Option Start) Cause} → Opens s r v → (h : Start) → v ≡ Ok (Some h) → Open s r h
opened-at (at {h} o) k e = let i : h ≡ k = cc in rw i at o
opened-at (none p) k e = never cc
opened-at (lost p) k e = never cc

opened-none : {s r : List ℕ} {v : Result (Option Start) Cause} → Opens s r v → v ≡ Ok None → steps_of (walking s) s r ≡ absent
opened-none (at o) e = never cc
opened-none (none p) e = p
opened-none (lost p) e = never cc

opened-lost : {s r : List ℕ} {v : Result (Option Start) Cause} → Opens s r v → (w : Cause) → v ≡ Err w → steps_of (walking s) s r ≡ refused w
opened-lost (at o) w z = never cc
opened-lost (none p) w z = never cc
opened-lost (lost {e} p) w z = let i : e ≡ w = cc in rw i at p

module _ (s r : List ℕ) (v : Result (Option Start) Cause) (u : Opens s r v) where
  pub all-absent : v ≡ Ok None → (ns : List ℕ) → Measures s r (steps_of (walking s) s r) ns (Ok None)
  all-absent e ns = rw (opened-none u e) measuring.none

  pub all-refused : (w : Cause) → v ≡ Err w → (ns : List ℕ) → Measures s r (steps_of (walking s) s r) ns (Err w)
  all-refused w e ns = rw (opened-lost u w e) refuses

  module _ (h : Start) (e : v ≡ Ok (Some h)) where
    pub all-started : Started s r h
    all-started = (opened-at u h e).started

    pub all-fine : FineFrom r h
    all-fine = (opened-at u h e).fine

    pub all-measured : (ns : List ℕ) (y : Result (Option Measured) Cause) → Measures s r (steps_in (gathered_by (walking s) s r h)) ns y
        → Measures s r (steps_of (walking s) s r) ns y
    all-measured ns y m = subst (λ (o : Steps). Measures s r o ns y) (sym (opened-at u h e).steps) m

pub ruleset measure_all_laws = (all-absent, all-refused, all-started, all-fine, all-measured)

-- ---- measure_tested
module _ (s r : List ℕ) (u : Verdict) (x : u ≡ judge_length s) (ns : List ℕ) where
  pub tested-long : (w : Refusal) → u ≡ Err w → (y : Cause) → y ≡ bare w → Measures s r (resolving_tested s r) ns (Err y)
  unfolding resolving_by
  tested-long w h y e = rw (← x, h, e) refuses

  module _ (h : u ≡ fine) (v : Verdict) (q : v ≡ judge_request r) where
    pub tested-refused : (w : Refusal) → v ≡ Err w → (y : Cause) → y ≡ bare w → Measures s r (resolving_tested s r) ns (Err y)
    unfolding resolving_by
    tested-refused w g y e = rw (← x, h, ← q, g, e) refuses

    pub tested-over : v ≡ fine → (y : Result (Option Measured) Cause) → Measures s r (steps_of (walking s) s r) ns y → Measures s r (resolving_tested s r) ns y
    unfolding resolving_by
    tested-over g y k = rw (← x, h, ← q, g) k

pub tested-fine : (r : List ℕ) (v : Verdict) → v ≡ judge_request r → v ≡ fine → judge_request r ≡ fine
tested-fine r v q g = sym q ∙ g

pub ruleset measure_tested_laws = (tested-long, tested-refused, tested-over, tested-fine)
