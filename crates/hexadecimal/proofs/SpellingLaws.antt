-- Texts: the laws of `unhex`, and the loop of `decode`.
-- Assumes nothing.
use Rattle.std.specs.Prelude.{◌≡◌, refl, List, [], ◌∷◌, ◌++◌, ℕ, suc, ◌+◌, ◌*◌, ◌≤◌, ◌<◌, length, get_or, drop}
use Rattle.basis.specs.Kit.{sym, ap, ◌∙◌, sets}
use Rattle.basis.proofs.Kit.{arith, add-one, eq-eqb, ne_eqb}
use mathlib.Core.Path.{subst}
use mathlib.Core.List.{append_assoc, append-nil}
use native.Mathlib.Nat.{zero-add}
use lib.ListN.{drop_of_length-le}
use lib.Seq.{drop-cons}
use Rattle.octets.specs.inner.Laid.{Laid}
use Rattle.octets.proofs.Overlay.{laid-append, laid-length}
use Rattle.hexadecimal.specs.declared.digits.Decoded.TheVariants.{Bytes, NoDigit, HalfByte}
use Rattle.hexadecimal.specs.Digits.{blank, other, digit_of, Spelled, bytes, no_digit, half_byte, front, unhex, decoded_of, Decodes}

-- ---- several bytes in front of what a text spells
abbrev pub fronts : List ℕ → Spelled → Spelled
fronts bs (bytes cs) = bytes (bs ++ cs)
fronts bs (no_digit at) = no_digit at
fronts bs half_byte = half_byte

fronts-nil : (s : Spelled) → s ≡ fronts [] s
fronts-nil (bytes cs) = refl
fronts-nil (no_digit at) = refl
fronts-nil half_byte = refl

fronts-front : (bs : List ℕ) (b : ℕ) (s : Spelled) → fronts bs (front b s) ≡ fronts (bs ++ (b ∷ [])) s
fronts-front bs b (bytes cs) = ap bytes (sym (append_assoc bs (b ∷ []) cs))
fronts-front bs b (no_digit at) = refl
fronts-front bs b half_byte = refl

bytes-inv : {xs ys : List ℕ} → bytes xs ≡ bytes ys → xs ≡ ys
bytes-inv e = cc

-- ---- a byte of a text
module _ (at half c : ℕ) (cs : List ℕ) (d : ℕ) (e : d ≡ digit_of c) where
  unhex-other : d ≡ other → unhex at half (c ∷ cs) ≡ no_digit at
  unfolding unhex
  unhex-other q = simp (unhex, ← e, eq-eqb d other q)

  module _ (a : d ≡ other → ⊥) where
    unhex-blank : d ≡ blank → unhex at half (c ∷ cs) ≡ unhex (suc at) half cs
    unfolding unhex
    unhex-blank q = simp (unhex, ← e, ne_eqb d other a, eq-eqb d blank q)

    module _ (b : d ≡ blank → ⊥) where
      unhex-first : half ≡ blank → unhex at half (c ∷ cs) ≡ unhex (suc at) d cs
      unfolding unhex
      unhex-first q = simp (unhex, ← e, ne_eqb d other a, ne_eqb d blank b, eq-eqb half blank q)

      unhex-second : (half ≡ blank → ⊥) → unhex at half (c ∷ cs) ≡ front (half * 16 + d) (unhex (suc at) blank cs)
      unfolding unhex
      unhex-second g = simp (unhex, ← e, ne_eqb d other a, ne_eqb d blank b, ne_eqb half blank g)

-- ---- the loop: the first i bytes of the text are read, n bytes are laid over l, which is now l', and half a byte may be held
pub record Spelling (t l l' : List ℕ) (half n i : ℕ) : Type 0 where
  pub reached : i ≤ length t
  pub small : half ≤ blank
  pub few : n ≤ i
  pub done : List ℕ
  pub laid : Laid l 0 done l' n
  pub rest : unhex 0 blank t ≡ fronts done (unhex i half (drop i t))

pub spelling-start : (t l : List ℕ) → Spelling t l l blank 0 0
spelling-start t l = record {
  reached = omega arith;
  small = omega arith;
  few = omega arith;
  done = [];
  laid = record { next = refl; left = refl };
  rest = fronts-nil (unhex 0 blank t);
}

-- a text that spells no bytes
abbrev NoBytes : Spelled → Type 0
NoBytes (bytes bs) = ⊥
NoBytes (no_digit at) = Unit
NoBytes half_byte = Unit

no-bytes : (t l m : List ℕ) (s : Spelled) → NoBytes s → unhex 0 blank t ≡ s → Decodes t l m (decoded_of s)
no-bytes t l m s none q = record { answer = sym (ap decoded_of q); left = λ bs p. absurd (subst NoBytes (sym q ∙ p) none) }

module _ (t l m : List ℕ) (half n i : ℕ) (u : Spelling t l m half n i) where
  pub spelling-length : length m ≡ length l
  spelling-length = laid-length u.done u.laid

  module _ (h : length t ≤ i) where
    ends : (s : Spelled) → unhex i half [] ≡ s → unhex 0 blank t ≡ fronts u.done s
    ends s e = u.rest ∙ rw (drop_of_length-le t h, e)

    pub spelling-done : half ≡ blank → Decodes t l m (Bytes n)
    unfolding unhex
    spelling-done e =
        let q : unhex 0 blank t ≡ bytes u.done =
        ends (bytes []) (simp (unhex, eq-eqb half blank e)) ∙ ap bytes (append-nil u.done) in
        let size : n ≡ length u.done = u.laid.next ∙ zero-add _ in
        record { answer = ap Bytes size ∙ sym (ap decoded_of q); left = λ bs p. u.laid.left ∙ ap (sets l 0) (bytes-inv (sym q ∙ p)) }

    pub spelling-half : (half ≡ blank → ⊥) → Decodes t l m HalfByte
    unfolding unhex
    spelling-half e = no-bytes t l m half_byte tt (ends half_byte (simp (unhex, ne_eqb half blank e)))

  module _ (h : i < length t) (d : ℕ) (e : d ≡ digit_of (get_or t i 0)) where
    steps : (s : Spelled) → unhex i half (get_or t i 0 ∷ drop (suc i) t) ≡ s → unhex 0 blank t ≡ fronts u.done s
    steps s q = u.rest ∙ rw (drop-cons t i 0 h, q)

    joins : (b : ℕ) (s : Spelled) → unhex i half (get_or t i 0 ∷ drop (suc i) t) ≡ front b s
        → unhex 0 blank t ≡ fronts (u.done ++ (b ∷ [])) s
    joins b s q = steps _ q ∙ fronts-front u.done b s

    pub spelling-other : d ≡ other → Decodes t l m (NoDigit i)
    spelling-other q = no-bytes t l m (no_digit i) tt (steps _ (unhex-other i half _ _ d e q))

    -- a byte that is read and completes no byte
    held : (half' : ℕ) → half' ≤ blank → unhex i half (get_or t i 0 ∷ drop (suc i) t) ≡ unhex (suc i) half' (drop (suc i) t)
        → Spelling t l m half' n (i + 1)
    held half' g q = record {
      reached = omega arith;
      small = g;
      few = omega (arith, u.few);
      done = u.done;
      laid = u.laid;
      rest = rw (add-one i) (steps _ q);
    }

    module _ (a : d ≡ other → ⊥) where
      pub spelling-blank : d ≡ blank → Spelling t l m half n (i + 1)
      spelling-blank q = held half u.small (unhex-blank i half _ _ d e a q)

      module _ (b : d ≡ blank → ⊥) where
        pub spelling-first : d ≤ other → half ≡ blank → Spelling t l m d n (i + 1)
        spelling-first k q = held d (omega arith) (unhex-first i half _ _ d e a b q)

        pub spelling-second : (half ≡ blank → ⊥) → (l' : List ℕ) → l' ≡ sets m n ((half * 16 + d) ∷ [])
            → Spelling t l l' blank (n + 1) (i + 1)
        spelling-second g l' p = record {
          reached = omega arith;
          small = omega arith;
          few = omega (arith, u.few);
          done = u.done ++ ((half * 16 + d) ∷ []);
          laid = laid-append u.done _ u.laid (record { next = refl; left = p });
          rest = rw (add-one i) (joins (half * 16 + d) (unhex (suc i) blank (drop (suc i) t)) (unhex-second i half _ _ d e a b g));
        }

pub ruleset spelling_laws = (
  spelling-start,
  spelling-length,
  spelling-done,
  spelling-half,
  spelling-other,
  spelling-blank,
  spelling-first,
  spelling-second,
)
