-- What a fine sheet's tree is like: every leaf is what 01 allows, and nothing is left out. The final statements stand at the end;
-- what they say of a file and of each message in it goes on in messageform/proofs/FineLaws.antt.
-- Assumes nothing.
use Rattle.std.specs.Prelude.{◌≡◌, refl, Bool, true, false, List, ℕ, suc, ◌+◌, ◌≤◌, ◌<◌, ltb, length, Option, Some}
use Rattle.basis.specs.Kit.{sym, ap, ◌∙◌}
use Rattle.basis.proofs.Kit.{arith}
use native.Mathlib.Decide.{ℕ_discrete}
use Rattle.limits.specs.Figures.{most_files, most_messages}
use Rattle.path.specs.Path.{is_rel_or_empty}
use Rattle.reply.specs.declared.Refusal.TheVariants.{BadSheet, BeyondLimit}
use Rattle.reply.proofs.VerdictLaws.{refused-fine, first-fine-front, first-fine-rest}
use Rattle.field.specs.Field.{field_at}
use Rattle.field.specs.Leaf.{any_bytes, on_leaf, leaf_at}
use Rattle.field.specs.Walk.{Walk, done, cut, step, walk, tags_in}
use Rattle.form.specs.Each.{each_from}
use Rattle.field.proofs.WalkLaws.{walk_step}
use Rattle.sheet.specs.Table.{file_tag, package_tag}
use Rattle.sheet.specs.Tree.{File, file_in, files_in, tree_of}
use Rattle.reply.specs.Verdicts.{beyond, fine}
use Rattle.messageform.specs.Form.{bad_sheet, judge_items}
use Rattle.sheetform.specs.Form.{judge_file, judge_files, judge_length, judge_sheet}
use Rattle.sheetform.specs.Fine.{good_files}
use Rattle.sheetform.proofs.SheetLaws.{file-other, file-early}
use Rattle.messageform.proofs.FineLaws.{level-fine}
use Rattle.messageform.proofs.FineItems.{Inside, leaf-fine}
use Rattle.field.specs.declared.Field.{Field}

-- ---- files
record FineFiles (s : List ℕ) (w : Walk) (fs : List File) : Type 0 where
  good : good_files s fs ≡ true
  whole : length fs ≡ length (tags_in w)

-- A file that is fine has a package, and what it holds is fine.
pub fine-file : (s : List ℕ) (i a e : ℕ) → judge_file s i file_tag a e ≡ fine
    → Inside (leaf_at package_tag any_bytes s a e) is_rel_or_empty s (λ m. judge_items most_messages false s m e)
unfolding judge_file
fine-file s i a e = go (ltb i most_files)
  where
    go : (b : Bool)
        → elim b [
          | true ↦ on_leaf bad_sheet (leaf_at package_tag is_rel_or_empty s a e) λ p. judge_items most_messages false s p.to e
          | false ↦ beyond
        ] ≡ fine
        → Inside (leaf_at package_tag any_bytes s a e) is_rel_or_empty s (λ m. judge_items most_messages false s m e)
    go true p = leaf-fine package_tag is_rel_or_empty s a e (λ m. judge_items most_messages false s m e) p
    go false p = absurd (refused-fine BeyondLimit p)

file-tagged : (s : List ℕ) (i t a e : ℕ) → judge_file s i t a e ≡ fine → t ≡ file_tag
file-tagged s i t a e p = elim (ℕ_discrete t file_tag) [
  | yes y ↦ y
  | no n ↦ absurd (refused-fine BadSheet (file-other s i t a e n ∙ p))
]

file-more : (s : List ℕ) (i t a e : ℕ) (w : Walk) (fs : List File) → judge_file s i t a e ≡ fine → FineFiles s w fs
    → FineFiles s (step t a e w) (file_in s t a e fs)
unfolding file_in
file-more s i t a e w fs p h = let y = file-tagged s i t a e p in rw y (at-file (rw y at p))
  where
    at-file : judge_file s i file_tag a e ≡ fine → FineFiles s (step file_tag a e w) (file_in s file_tag a e fs)
    at-file q =
        let x = fine-file s i a e q in
        let l = level-fine most_messages false s x.to e x.fine in
        rw x.named record { good = rw (x.tested, l.good, h.good); whole = ap suc h.whole }

files-fine : (s : List ℕ) (n : ℕ) (w : Walk) → each_from BadSheet (judge_file s) n w ≡ fine → FineFiles s w (files_in s w)
files-fine s n done p = record { good = refl; whole = refl }
files-fine s n cut p = absurd (refused-fine BadSheet p)
files-fine s n (step t a e w) p =
    let judge = judge_file s in
    let front = first-fine-front (judge n t a e) (each_from BadSheet judge (n + 1) w) p in
    let rest = first-fine-rest (judge n t a e) (each_from BadSheet judge (n + 1) w) p in
    file-more s n t a e w (files_in s w) front (files-fine s (n + 1) w rest)

files-few : (s : List ℕ) (n : ℕ) (w : Walk) → n ≤ most_files → each_from BadSheet (judge_file s) n w ≡ fine
    → n + length (tags_in w) ≤ most_files
files-few s n done h p = omega arith
files-few s n cut h p = absurd (refused-fine BadSheet p)
files-few s n (step t a e w) h p =
    let judge = judge_file s in
    let front = first-fine-front (judge n t a e) (each_from BadSheet judge (n + 1) w) p in
    let here = file-early s n t a e (sym front) in
    let rest = first-fine-rest (judge n t a e) (each_from BadSheet judge (n + 1) w) p in
    omega (arith, files-few s (n + 1) w (omega (arith, here)) rest)

-- ==== the statements
-- Where a sheet is fine, so are its files.
pub fine-sheet : (s : List ℕ) → judge_sheet s ≡ fine → each_from BadSheet (judge_file s) 0 (walk s 0 (length s)) ≡ fine
unfolding judge_sheet judge_files
fine-sheet s = first-fine-rest (judge_length s) (judge_files s)

-- Every name, path, number, type and label in the tree of a fine sheet is what 01 allows.
pub fine-good : (s : List ℕ) → judge_sheet s ≡ fine → good_files s (tree_of s) ≡ true
unfolding tree_of
fine-good s p = (files-fine s 0 (walk s 0 (length s)) (fine-sheet s p)).good

-- Every field of a fine sheet is a file of its tree.
pub fine-files : (s : List ℕ) → judge_sheet s ≡ fine → length (tree_of s) ≡ length (tags_in (walk s 0 (length s)))
unfolding tree_of
fine-files s p = (files-fine s 0 (walk s 0 (length s)) (fine-sheet s p)).whole

module _ (s : List ℕ) (n i to : ℕ) (p : each_from BadSheet (judge_file s) n (walk s i to) ≡ fine) (h : i < to)
    (r : Option Field) (q : r ≡ field_at s i to) (f : Field) (g : r ≡ Some f) where
  file-opened : each_from BadSheet (judge_file s) n (step f.tag f.from f.to (walk s f.to to)) ≡ fine
  file-opened = ap (each_from BadSheet (judge_file s) n) (sym (walk_step s i to h r q f g)) ∙ p

  -- Where fine files have a field, that is fine: so on to every file of a sheet, and by fine-file to what it holds.
  pub fine-file-at : judge_file s n f.tag f.from f.to ≡ fine
  fine-file-at = first-fine-front (judge_file s n f.tag f.from f.to) (each_from BadSheet (judge_file s) (n + 1) (walk s f.to to)) file-opened

  -- It is a file.
  pub fine-file-tag : f.tag ≡ file_tag
  fine-file-tag = file-tagged s n f.tag f.from f.to fine-file-at

  -- The files that follow it are fine.
  pub fine-file-next : each_from BadSheet (judge_file s) (n + 1) (walk s f.to to) ≡ fine
  fine-file-next = first-fine-rest (judge_file s n f.tag f.from f.to) (each_from BadSheet (judge_file s) (n + 1) (walk s f.to to)) file-opened

-- A fine sheet has at most 8 files.
pub fine-few-files : (s : List ℕ) → judge_sheet s ≡ fine → length (tree_of s) ≤ most_files
fine-few-files s p = omega (arith, fine-files s p, files-few s 0 (walk s 0 (length s)) (omega arith) (fine-sheet s p))
