-- What was measured, written: the second run lays what the first measured.
-- Assumes nothing.
use Rattle.std.specs.Prelude.{◌≡◌, List, ℕ, length, Result}
use Rattle.basis.specs.Kit.{sym, ap, ◌∙◌, sets}
use Rattle.basis.proofs.Kit.{arith}
use mathlib.Core.Path.{subst}
use Rattle.basis.proofs.Never.{never}
use Rattle.octets.specs.inner.Laid.{Laid}
use Rattle.octets.proofs.Overlay.{laid-append}
use Rattle.records.specs.Records.{Recs, encode}
use Rattle.records.specs.inner.Emits.{Roomy}
use Rattle.records.proofs.RecsLaws.{encode-append}
use Rattle.lookups.specs.Lookups.{walking}
use Rattle.known.specs.Known.{Known, known_recs}
use Rattle.options.specs.declared.Tally.{Tally}
use Rattle.reply.specs.declared.Cause.{Cause}
use Rattle.options.specs.inner.Settling.{Started}
use Rattle.options.specs.Options.{Gathered, gathered}
use Rattle.options.specs.inner.Gathering.{gathered_by, made_at, knowns_of, FineFrom, Gathers, gives, stops}
use Rattle.options.specs.declared.measure.Measured.{Measured}
use Rattle.options.specs.inner.Measuring.{all_of, Counted, Ready}
use Rattle.options.proofs.MeasureLaws.{counted-count, counted-noted, counted-few}

record Relaid (at : ℕ) (l l' : List ℕ) (x : Recs) : Type 0 where
  next : ℕ
  laid : Laid l at (encode x) l' next

gathers-laid : {made : ℕ → Recs} {k : ℕ} {g : Gathered} {at : ℕ} {l l' ns : List ℕ} {y : Result Tally Cause} → Gathers made k g at l l' ns y
    → (ks : List Known) (x : Recs) → g ≡ gathered ks x → Relaid at l l' x
gathers-laid (gives {ks} {x} {at} {n} {next} a b c d) ks' x' e = let i : x ≡ x' = cc in rw (← i) (record { next = next; laid = a })
gathers-laid stops ks' x' e = never cc

module _ (s r ns : List ℕ) (m : Measured) (k : Ready s r ns m) where
  abbrev knowns : List Known
  knowns = k.counted.knowns

  abbrev rest : Recs
  rest = k.counted.rest

  pub write-counted : Counted s r ns m.start m.count
  write-counted = k.counted

  pub write-started : Started s r m.start
  write-started = k.started

  pub write-fine : FineFrom r m.start
  write-fine = k.fine

  pub write-room : Roomy 0 (length r) r
  write-room = record { room = omega (arith, k.started.short) }

  pub write-next : (l l' : List ℕ) (p : ℕ) → Laid l 0 (encode (known_recs (knowns_of (gathered_by (walking s) s r m.start)))) l' p
      → Roomy p (length r) r
  write-next l l' p a = record { room = omega (arith, k.started.short, a.next, counted-few s r ns m.start m.count k.counted) }

  pub records-put : (l l₁ l₂ : List ℕ) (p q : ℕ) (ns' : List ℕ) (y : Result Tally Cause)
      → Laid l 0 (encode (known_recs (knowns_of (gathered_by (walking s) s r m.start)))) l₁ p
      → Gathers (made_at (walking s) s r m.start) q (gathered_by (walking s) s r m.start) p l₁ l₂ ns' y
      → l₂ ≡ sets l 0 (encode (all_of (gathered_by (walking s) s r m.start)))
  records-put l l₁ l₂ p q ns' y b c =
      let f = gathers-laid c knowns rest k.counted.gathers in
      let z : encode (known_recs (knowns_of (gathered_by (walking s) s r m.start))) ≡ encode (known_recs knowns) =
      ap (λ (g : Gathered). encode (known_recs (knowns_of g))) k.counted.gathers in
      let b' : Laid l 0 (encode (known_recs knowns)) l₁ p = subst (λ (bs : List ℕ). Laid l 0 bs l₁ p) z b in
      (laid-append (encode (known_recs knowns)) (encode rest) b' f.laid).left
      ∙ ap (sets l 0) (sym (encode-append (known_recs knowns) rest) ∙ sym (ap (λ (g : Gathered). encode (all_of g)) k.counted.gathers))

pub ruleset put_records_laws =
    (write-counted, counted-count, counted-noted, counted-few, write-started, write-fine, write-room, write-next, records-put)
