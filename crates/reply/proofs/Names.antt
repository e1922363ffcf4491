-- Names: the code's table is right, by one test that antt computes; and the loop that looks a row up there.
-- Assumes nothing.
use Rattle.std.specs.Prelude.{◌≡◌, refl, Bool, true, false, ◌&&◌, List, [], ◌∷◌, ℕ, suc, ◌+◌, ◌-◌, ◌*◌, ◌≤◌, ◌<◌, eqb, leb, length, get_or, take, drop}
use Rattle.basis.specs.Kit.{sym, ap, ◌∙◌}
use Rattle.basis.proofs.Kit.{arith, eq-eqb}
use mathlib.Core.Path.{subst}
use borrow.Author.Tests.{eqb-true}
use lib.Dec.{T, eqb→eq, leb→le}
use lib.ListN.{length-take, length-drop}
use Rattle.basis.proofs.Never.{never}
use Rattle.reply.specs.declared.Refusal.{Refusal}
use Rattle.reply.specs.Reply.{number, second, name, most_name, NameOf}
use Rattle.reply.specs.inner.Table.{row_size, RowAt, Tabled}
use Rattle.reply.proofs.Variants.{and_left, and_right}
use Rattle.reply.proofs.Rows.{refusals, place, place-few, placed, every, every-at, row-unique}

abbrev same : List ℕ → List ℕ → Bool
same [] [] = true
same [] (y ∷ ys) = false
same (x ∷ xs) [] = false
same (x ∷ xs) (y ∷ ys) = eqb x y && same xs ys

same-eq : (xs ys : List ℕ) → T (same xs ys) → xs ≡ ys
same-eq [] [] t = refl
same-eq [] (y ∷ ys) t = absurd t
same-eq (x ∷ xs) [] t = absurd t
same-eq (x ∷ xs) (y ∷ ys) t = rw (eqb→eq x y (and_left (eqb x y) (same xs ys) t), same-eq xs ys (and_right (eqb x y) (same xs ys) t))

-- ---- the table: each refusal's row is at its place, by one test of all refusals

abbrev fits : Refusal → (rows : List ℕ) (at : ℕ) → Bool
fits w rows at =
    leb (get_or rows (at + 2) 0) most_name
    && same (get_or rows at 0 ∷ get_or rows (at + 1) 0 ∷ take (get_or rows (at + 2) 0) (drop (at + 3) rows)) (number w ∷ second w ∷ name w)

fits-row : (w : Refusal) (rows : List ℕ) (at : ℕ) → T (fits w rows at) → RowAt rows at w
fits-row w rows at t =
    let small = leb (get_or rows (at + 2) 0) most_name in
    let mine = get_or rows at 0 ∷ get_or rows (at + 1) 0 ∷ take (get_or rows (at + 2) 0) (drop (at + 3) rows) in
    let its = number w ∷ second w ∷ name w in
    let e : mine ≡ its = same-eq mine its (and_right small (same mine its) t) in
    let s : get_or rows (at + 2) 0 ≤ most_name = leb→le (get_or rows (at + 2) 0) most_name (and_left small (same mine its) t) in
    record { numbered = cc; seconded = cc; named = cc; short = s }

pub rows_tabled : (rows : List ℕ) → T (every (λ w. fits w rows (place w * row_size))) → length rows ≡ refusals * row_size → Tabled rows
rows_tabled rows t e = record {
  most = refusals;
  size = e;
  place = place;
  inside = place-few;
  row_of = at;
  refusal = λ i h. (placed i h).refusal;
  row_at = λ i h. rw (placed i h).is at (at (placed i h).refusal);
}
  where
    at : (w : Refusal) → RowAt rows (place w * row_size) w
    at w = fits-row w rows (place w * row_size) (every-at (λ w. fits w rows (place w * row_size)) t w)

-- ---- the loop that looks a row up: none of those before `at` has the number n and the second word s
pub record Passed (rows : List ℕ) (n s at : ℕ) : Type 0 where
  pub turn : ℕ
  pub reached : at ≡ turn * row_size
  pub none : (j : ℕ) → j < turn → get_or rows (j * row_size) 0 ≡ n → get_or rows (j * row_size + 1) 0 ≡ s → ⊥

pub passed_start : (rows : List ℕ) (n s : ℕ) → Passed rows n s 0
passed_start rows n s = record { turn = 0; reached = refl; none = λ j h. absurd (omega arith) }

both_true : (a b : Bool) → a && b ≡ true → (a ≡ true) × (b ≡ true)
both_true true true e = (refl, refl)
both_true true false e = never cc
both_true false b e = never cc

module _ (rows : List ℕ) (n s at : ℕ) (u : Passed rows n s at) where
  pub passed-next : (a b : ℕ) → eqb a n && eqb b s ≡ false → a ≡ get_or rows at 0 → b ≡ get_or rows (at + 1) 0 → Passed rows n s (at + row_size)
  passed-next a b e ea eb = record {
    turn = suc u.turn;
    reached = omega (arith, u.reached);
    none = λ j h p q. let other : j ≡ u.turn → ⊥ = not-here j p q in u.none j (omega arith) p q;
  }
    where
      not-here : (j : ℕ) → get_or rows (j * row_size) 0 ≡ n → get_or rows (j * row_size + 1) 0 ≡ s → j ≡ u.turn → ⊥
      not-here j p q z =
          let there : at ≡ j * row_size = u.reached ∙ ap (λ i. i * row_size) (sym z) in
          let found = simp (eq-eqb a n (ea ∙ rw there p), eq-eqb b s (eb ∙ rw there q)) at e in
          never cc

  module _ (k : Tabled rows) where
    pub name-none : (l : List ℕ) → l ≡ [] → length rows ≤ at → NameOf n s l
    name-none l g h = record { is = λ w p q. absurd (missed w p q); none = λ _. g }
      where
        missed : (w : Refusal) → n ≡ number w → s ≡ second w → ⊥
        missed w p q =
            let r = k.row_of w in
            let before : k.place w < u.turn = omega (arith, k.inside w, k.size, u.reached) in
            u.none (k.place w) before (r.numbered ∙ sym p) (r.seconded ∙ sym q)

    module _ (h : at < length rows) where
      in_table : u.turn < k.most
      in_table = omega (arith, k.size, u.reached)

      row_here : RowAt rows at (k.refusal u.turn in_table)
      row_here = subst (λ a. RowAt rows a (k.refusal u.turn in_table)) (sym u.reached) (k.row_at u.turn in_table)

      row_inside : at + row_size ≤ length rows
      row_inside = omega (arith, k.size, u.reached, in_table)

      pub second-inside : at + 1 < length rows
      second-inside = omega (arith, row_inside)

      pub size-inside : at + 2 < length rows
      size-inside = omega (arith, row_inside)

      module _ (m : ℕ) (em : m ≡ get_or rows (at + 2) 0) where
        pub text-inside : at + 3 + m ≤ length rows
        text-inside = omega (arith, row_inside, row_here.short)

        pub text-short : length (take (at + 3 + m - (at + 3)) (drop (at + 3) rows)) ≤ most_name
        text-short = simp (length-take, length-drop) (omega (arith, text-inside, row_here.short))

        pub name-found : (l : List ℕ) → l ≡ take (at + 3 + m - (at + 3)) (drop (at + 3) rows)
            → (a b : ℕ) → a ≡ get_or rows at 0 → b ≡ get_or rows (at + 1) 0 → eqb a n && eqb b s ≡ true → NameOf n s l
        name-found l g a b ea eb e =
            let v = k.refusal u.turn in_table in
            let both = both_true (eqb a n) (eqb b s) e in
            let p : n ≡ number v = sym (eqb-true a n both.0) ∙ ea ∙ row_here.numbered in
            let q : s ≡ second v = sym (eqb-true b s both.1) ∙ eb ∙ row_here.seconded in
            let size : at + 3 + m - (at + 3) ≡ get_or rows (at + 2) 0 = omega arith in
            let text : l ≡ name v = g ∙ ap (λ i. take i (drop (at + 3) rows)) size ∙ row_here.named in
            record {
              is = λ w p' q'. text ∙ ap name (row-unique v w (sym p ∙ p') (sym q ∙ q'));
              none = λ no. absurd (no v p q);
            }

pub ruleset look_up_laws = (passed_start, passed-next, name-none, second-inside, size-inside, text-inside, text-short, name-found)
