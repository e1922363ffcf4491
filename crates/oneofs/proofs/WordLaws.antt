-- The words of one list of fields in either numbering: what they are made of, and that they are refused alike.
-- Assumes nothing.
use Rattle.std.specs.Prelude.{◌≡◌, refl, Bool, true, false, List, [], ◌∷◌, map, ℕ, zero, suc, ◌≤◌, ltb, length, get_or, None, Some}
use Rattle.basis.specs.Kit.{sym, ap, ◌∙◌}
use Rattle.basis.specs.Among.{Among, here, there}
use Rattle.basis.proofs.Kit.{arith, le-ltb}
use Rattle.basis.proofs.Never.{never}
use lib.ListN.{length-map, get_or-map}
use Rattle.limits.specs.Figures.{most_words}
use Rattle.reply.specs.declared.Refusal.TheVariants.{BadRequest, BeyondLimit, NoRoom}
use Rattle.reply.specs.Reply.{done_with}
use Rattle.reply.specs.Outcome.{Outcome, refused, refuse, nothing, give, within, answer_of}
use Rattle.emit.proofs.WriteLaws.{give-inv}
use Rattle.oneofs.specs.Fields.{Oneof, Group, groups, real_count, synthetic_last, word_of, numbered, lower_fields_by}
use Rattle.oneofs.specs.Fields.{Alike, both-refused, as_many}
use Rattle.oneofs.proofs.GroupLaws.{numbered-given}
use Rattle.oneofs.proofs.FieldLaws.{groups-present}
use Rattle.oneofs.proofs.OpenedLaws.{group-opened}
use Rattle.oneofs.proofs.OrderLaws.{index-unique}

-- ---- refused alike
fields-known : (numbering : ℕ) (ws : List ℕ) → numbering ≤ synthetic_last
    → lower_fields_by numbering ws
    ≡ elim (ltb most_words (length ws)) [ true ↦ refuse BeyondLimit | false ↦ numbered numbering (real_count ws) (groups ws) ]
unfolding lower_fields_by
fields-known numbering ws h = simp (lower_fields_by, le-ltb synthetic_last numbering h)

module _ (a b : ℕ) where
  numbered-alike : (reals : ℕ) (o : Outcome Group) → (o ≡ nothing → ⊥) → Alike (numbered a reals o) (numbered b reals o)
  numbered-alike reals (refused c) h = both-refused
  numbered-alike reals nothing h = absurd (h refl)
  numbered-alike reals (give gs) h = as_many (length-map gs (word_of a reals) ∙ sym (length-map gs (word_of b reals)))

  alike-if : (t : Bool) {o p q : Outcome ℕ} → Alike o o → Alike p q
      → Alike (elim t [ true ↦ o | false ↦ p ]) (elim t [ true ↦ o | false ↦ q ])
  alike-if true h k = h
  alike-if false h k = k

  pub fields-alike : (ws : List ℕ) → a ≤ synthetic_last → b ≤ synthetic_last → Alike (lower_fields_by a ws) (lower_fields_by b ws)
  fields-alike ws h h' =
      rw (fields-known a ws h, fields-known b ws h')
      (alike-if (ltb most_words (length ws)) both-refused (numbered-alike (real_count ws) (groups ws) (groups-present ws)))

given-alike : (t : Bool) (xs ys : List ℕ) → length xs ≡ length ys
    → answer_of {A = ℕ} (elim t [ true ↦ refuse NoRoom | false ↦ give xs ])
    ≡ answer_of {A = ℕ} (elim t [ true ↦ refuse NoRoom | false ↦ give ys ])
given-alike true xs ys e = refl
given-alike false xs ys e = ap done_with e

pub answers-alike : (o q : Outcome ℕ) (room : ℕ) → Alike o q → answer_of (within room o) ≡ answer_of (within room q)
answers-alike o q room both-refused = refl
answers-alike o q room (as_many {xs} {ys} e) =
    given-alike (ltb room (length xs)) xs ys e
    ∙ ap (λ n. answer_of {A = ℕ} (elim (ltb room n) [ true ↦ refuse NoRoom | false ↦ give ys ])) e

-- ---- what the words are made of
module _ (numbering : ℕ) (ws xs : List ℕ) (e : lower_fields_by numbering ws ≡ give xs) where
  taken : numbered numbering (real_count ws) (groups ws) ≡ give xs
  unfolding lower_fields_by
  taken = go (ltb synthetic_last numbering) (ltb most_words (length ws)) _ e
    where
      go : (a b : Bool) (o : Outcome ℕ)
          → ◌≡◌ {A = Outcome ℕ} (elim a [ true ↦ refuse BadRequest | false ↦ elim b [ true ↦ refuse BeyondLimit | false ↦ o ] ]) (give xs)
          → o ≡ give xs
      go true b o e = never cc
      go false true o e = never cc
      go false false o e = e

  pub words-made : (gs : List Group) × (groups ws ≡ give gs) × (xs ≡ map (word_of numbering (real_count ws)) gs)
  words-made = numbered-given numbering (real_count ws) xs (groups ws) taken

  pub words_are : (gs : List Group) → groups ws ≡ give gs → xs ≡ map (word_of numbering (real_count ws)) gs
  words_are gs g = sym (give-inv (rw g at taken))

-- ---- a field's group, by its word
at_some : (gs : List Group) (i : ℕ) (x : Oneof) → get_or gs i None ≡ Some x → Among (Some x) gs
at_some [] i x e = never cc
at_some (g ∷ gs) zero x e = rw e here
at_some (g ∷ gs) (suc i) x e = there (at_some gs i x e)

word_some : (numbering reals : ℕ) (g : Group) → word_of numbering reals g ≡ 0 → g ≡ None
word_some numbering reals None e = refl
word_some numbering reals (Some x) e = absurd (omega arith)

module _ (numbering : ℕ) (ws : List ℕ) (gs : List Group) (e : groups ws ≡ give gs) where
  -- two groups of one list have the same word only if they are one
  group-unique : (g h : Group) → ((x : Oneof) → g ≡ Some x → Among (Some x) gs) → ((x : Oneof) → h ≡ Some x → Among (Some x) gs)
      → word_of numbering (real_count ws) g ≡ word_of numbering (real_count ws) h → g ≡ h
  group-unique None None m m' q = refl
  group-unique None (Some y) m m' q = absurd (omega arith)
  group-unique (Some x) None m m' q = absurd (omega arith)
  group-unique (Some x) (Some y) m m' q =
      ap Some (index-unique numbering ws x y (group-opened ws gs e x (m x refl)) (group-opened ws gs e y (m' y refl)) (omega arith))

  module _ (xs : List ℕ) (f : lower_fields_by numbering ws ≡ give xs) where
    pub word_at : (i : ℕ) → get_or xs i 0 ≡ word_of numbering (real_count ws) (get_or gs i None)
    word_at i =
        ap (λ l. get_or l i 0) (words_are numbering ws xs f gs e) ∙ get_or-map (word_of numbering (real_count ws)) gs i None

    pub word_none : (i : ℕ) → get_or xs i 0 ≡ 0 → get_or gs i None ≡ None
    word_none i q = word_some numbering (real_count ws) (get_or gs i None) (sym (word_at i) ∙ q)

    pub none-word : (i : ℕ) → get_or gs i None ≡ None → get_or xs i 0 ≡ 0
    none-word i q = word_at i ∙ ap (word_of numbering (real_count ws)) q

    pub word-group : (i j : ℕ) → get_or xs i 0 ≡ get_or xs j 0 → get_or gs i None ≡ get_or gs j None
    word-group i j q =
        group-unique (get_or gs i None) (get_or gs j None) (at_some gs i) (at_some gs j) (sym (word_at i) ∙ q ∙ word_at j)

    pub group-word : (i j : ℕ) → get_or gs i None ≡ get_or gs j None → get_or xs i 0 ≡ get_or xs j 0
    group-word i j q = word_at i ∙ ap (word_of numbering (real_count ws)) q ∙ sym (word_at j)
