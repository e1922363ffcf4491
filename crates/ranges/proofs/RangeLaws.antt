-- Ranges: the loop of `put_ranges`, and the ways through `lower_ranges`.
-- Assumes nothing.
use Rattle.std.specs.Prelude.{◌≡◌, refl, List, [], ◌∷◌, ℕ, suc, ◌+◌, ◌%◌, ◌≤◌, ◌<◌, length, get_or, drop, Err, None, ℤ, Some, Ok, Option, Result}
use Rattle.basis.specs.Kit.{sym, ap, ◌∙◌, sets}
use Rattle.basis.proofs.Kit.{arith, add-one, eq-eqb, ne_eqb, lt-ltb, le-ltb, Fits}
use lib.IntN.{ℤ, pos}
use lib.ListN.{drop_of_length-le}
use lib.Seq.{drop-cons}
use mir.Syntax.{w32}
use mir.Val.{SFits, to_z, of_z}
use mir.Facts.{to_z-of_z}
use lib.Signed.{mag}
use Rattle.basis.proofs.Never.{never}
use Rattle.limits.specs.Figures.{most_words}
use Rattle.reply.specs.declared.Refusal.TheVariants.{BadRequest, BeyondLimit, RangeEnd}
use Rattle.reply.specs.declared.Cause.{Cause}
use Rattle.reply.specs.declared.Answer.{Answer}
use Rattle.reply.specs.Reply.{bare, refused_by}
use Rattle.reply.specs.Outcome.{Outcome, refused, nothing, give, push, Answered}
use Rattle.reply.proofs.Outcomes.{answered-refused}
use Rattle.emit.specs.inner.Puts.{Puts}
use Rattle.ranges.specs.Ranges.{enum_reserved, end_of, with_end, pairs, lower_ranges}
use Rattle.emit.proofs.WriteLaws.{Front, front-start, front-put, front_length, front-refused, front-done}
use Rattle.emit.proofs.WriteLaws.{give-inv, put-wrote, call_laws}

-- a word as the machine has it: written as bits, and read from them
abbrev pub word : ℤ → ℤ
word z = to_z w32 (of_z w32 z)

word_back : (z : ℤ) → mag z < 2147483648 → word z ≡ z
word_back z h = to_z-of_z {w = w32} (record { sfits = h })

pub range_put : (l m l' : List ℤ) (at : ℕ) (s e : ℤ) → SFits w32 s → SFits w32 e
    → m ≡ sets l at (word s ∷ []) → l' ≡ sets m (at + 1) (word e ∷ []) → l' ≡ sets l at (s ∷ e ∷ [])
range_put l m l' at s e fs fe a b = b ∙ rw (a, to_z-of_z fs, to_z-of_z fe, add-one at)

-- ---- the loop: the first i words are lowered
pub record Ranging (k : ℕ) (ws l l' : List ℤ) (i : ℕ) : Type 0 where
  pub reached : i ≤ length ws
  pub turn : i % 2 ≡ 0
  pub whole : length ws % 2 ≡ 0
  pub laid : Front (pairs k ws) (pairs k (drop i ws)) 0 l l' i

pub ranging-start : (k : ℕ) (ws l : List ℤ) → length ws % 2 ≡ 0 → Ranging k ws l l 0
ranging-start k ws l h = record { reached = omega arith; turn = refl; whole = h; laid = front-start (pairs k ws) 0 l }

module _ (k : ℕ) (ws l m : List ℤ) (i : ℕ) (u : Ranging k ws l m i) where
  pub ranging-end-in : i < length ws → i + 1 < length ws
  ranging-end-in h = omega arith

  pub ranging-length : length m ≡ length l
  ranging-length = front_length _ _ 0 l m i u.laid

  pub ranging-done : length ws ≤ i → Puts (pairs k ws) 0 l m (Ok i)
  unfolding pairs
  ranging-done h = front-done _ _ 0 l m i u.laid (rw (drop_of_length-le ws h))

  module _ (h : i < length ws) where
    -- the range that starts at i
    range-here : drop i ws ≡ get_or ws i (pos 0) ∷ get_or ws (i + 1) (pos 0) ∷ drop (i + 2) ws
    range-here =
        let h' : suc i < length ws = rw (← (add-one i)) (ranging-end-in h) in
        let two : suc (suc i) ≡ i + 2 = omega arith in
        rw (drop-cons ws i (pos 0) h, drop-cons ws (suc i) (pos 0) h', two, ← (add-one i))

    rest-here : (x : Option ℤ) → x ≡ end_of k (get_or ws (i + 1) (pos 0))
        → pairs k (drop i ws) ≡ with_end (get_or ws i (pos 0)) x (pairs k (drop (i + 2) ws))
    unfolding pairs
    rest-here x q = ap (pairs k) range-here ∙ ap (λ y. with_end (get_or ws i (pos 0)) y (pairs k (drop (i + 2) ws))) (sym q)

    module _ (fe : mag (get_or ws (i + 1) (pos 0)) < 2147483648) (x : Option ℤ) (q : x ≡ end_of k (word (get_or ws (i + 1) (pos 0)))) where
      end-here : x ≡ end_of k (get_or ws (i + 1) (pos 0))
      end-here = q ∙ ap (end_of k) (word_back _ fe)

      pub ranging-none : x ≡ None → (c : Cause) → c ≡ bare RangeEnd → Puts (pairs k ws) 0 l m (Err c)
      ranging-none g c e = front-refused _ _ 0 l m i u.laid c (rest-here x end-here ∙ rw (g, e))

      module _ (fs : mag (get_or ws i (pos 0)) < 2147483648) (e : ℤ) (fx : mag e < 2147483648) (g : x ≡ Some e) where
        pub ranging-next : (l' : List ℤ) → l' ≡ sets m i (word (get_or ws i (pos 0)) ∷ word e ∷ []) → Ranging k ws l l' (i + 2)
        ranging-next l' a =
            let range = get_or ws i (pos 0) ∷ e ∷ [] in
            let after = pairs k (drop (i + 2) ws) in
            let split : pairs k (drop i ws) ≡ push range after = rest-here x end-here ∙ rw g in
            let here : l' ≡ sets m i range = rw (word_back _ fs, word_back _ fx) at a in
            let laid = front-put _ _ 0 l m i u.laid range after l' split here in
            record { reached = omega (arith, ranging-end-in h); turn = omega arith; whole = u.whole; laid = laid }

pub ruleset ranging_laws = (ranging-start, ranging-end-in, ranging-length, ranging-done, ranging-none, ranging-next)

-- ---- the public call

pairs-length : (k : ℕ) (ws words : List ℤ) → pairs k ws ≡ give words → length words ≡ length ws
unfolding pairs
pairs-length k [] words q = sym (ap length (give-inv q))
pairs-length k (s ∷ []) words q = never cc
pairs-length k (s ∷ e ∷ ws) words q = go (end_of k e) (pairs k ws) (pairs-length k ws) q
  where
    go : (x : Option ℤ) (o : Outcome ℤ) → ((m : List ℤ) → o ≡ give m → length m ≡ length ws) → with_end s x o ≡ give words
        → length words ≡ suc (suc (length ws))
    go None o p r = never cc
    go (Some x) (refused c) p r = never cc
    go (Some x) nothing p r = never cc
    go (Some x) (give m) p r = sym (ap length (give-inv r)) ∙ ap (λ n. suc (suc n)) (p m refl)

module _ (k : ℕ) (ws l : List ℤ) (r : Answer) where
  pub ranges-kind : enum_reserved < k → r ≡ refused_by BadRequest → Answered (lower_ranges k ws) l l r
  unfolding lower_ranges
  ranges-kind h a = rw a (answered-refused _ l (bare BadRequest) (simp (lower_ranges, lt-ltb _ _ h)))

  module _ (g : k ≤ enum_reserved) where
    pub ranges-long : most_words < length ws → r ≡ refused_by BeyondLimit → Answered (lower_ranges k ws) l l r
    unfolding lower_ranges
    ranges-long h a = rw a (answered-refused _ l (bare BeyondLimit) (simp (lower_ranges, le-ltb _ _ g, lt-ltb _ _ h)))

    pub ranges-odd : length ws ≤ most_words → length ws % 2 ≡ 1 → r ≡ refused_by BadRequest → Answered (lower_ranges k ws) l l r
    unfolding lower_ranges
    ranges-odd h o a = rw a (answered-refused _ l (bare BadRequest) (simp (lower_ranges, le-ltb _ _ g, le-ltb _ _ h, eq-eqb _ _ o)))

module _ (k : ℕ) (ws : List ℤ) (o : length ws % 2 ≡ 1 → ⊥) where
  pub ranges-even : length ws % 2 ≡ 0
  ranges-even = omega arith

  pub ranges-left : k ≤ enum_reserved → length ws ≤ most_words → lower_ranges k ws ≡ pairs k ws
  unfolding lower_ranges
  ranges-left g h = simp (lower_ranges, le-ltb _ _ g, le-ltb _ _ h, ne_eqb _ _ o)

pub ranges-fit : (k : ℕ) (ws z z' : List ℤ) (p : Result ℕ Cause) (n : ℕ)
    → Puts (pairs k ws) 0 z z' p → p ≡ Ok n → length ws ≤ most_words → Fits w32 n
ranges-fit k ws z z' p n u e h =
    let g = put-wrote n u e in
    record { fits = omega (arith, pairs-length k ws g.elements g.is, g.laid.next) }

pub ruleset ranges_laws = (ranges-kind, ranges-long, ranges-odd, ranges-even, ranges-left, ranges-fit, call_laws)
