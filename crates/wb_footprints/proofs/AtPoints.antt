-- The least number at one of several indices.
use Rattle.std.proofs.Common.{◌≡◌, ℕ, ◌<◌, ◌≤◌, ◌+◌, Bool, true, false, ◌&&◌, ◌||◌, Option}
use Rattle.std.proofs.Common.{None, List, [], ◌++◌, length, take, get_or, refl, sym, ap, ◌∙◌}
use Rattle.std.specs.List.{list_any}
use Rattle.std.proofs.lemmas.List.{take_all}
use Rattle.std.proofs.lemmas.List.Folds.{list_any_more, list_any-append}
use Rattle.wb_footprints.specs.declared.marks.blocks.MarkBlock.{MarkBlock}
use Rattle.wb_footprints.specs.Relation.{IsLeastAfter}
use Rattle.wb_cells.specs.declared.values.index.Index.{Index}
use Rattle.wb_footprints.specs.Indices.{in_indices}
use Rattle.wb_footprints.specs.Numbers.{numbered}
use Rattle.wb_footprints.specs.Blocks.{in_blocks}
use Rattle.wb_footprints.proofs.Meeting.{any_or, any_like, any_none, least_like}

and_true : (a : Bool) → a && true ≡ a
and_true true = refl
and_true false = refl

and_false : (a : Bool) → a && false ≡ false
and_false true = refl
and_false false = refl

pub and_last : {X : Type 0} (c : Bool) (f : X → Bool) (xs : List X) → list_any (λ x. f x && c) xs ≡ (list_any f xs && c)
and_last true f xs = any_like (λ x. f x && true) f xs (λ x. and_true (f x)) ∙ sym (and_true (list_any f xs))
and_last false f xs = any_like (λ x. f x && false) (λ x. false) xs (λ x. and_false (f x)) ∙ any_none xs ∙ sym (and_false (list_any f xs))

module _ {A : Type 0} where
  -- the same tests
  pub same_least : (f g : A → ℕ → Bool) → ((p : A) (n : ℕ) → g p n ≡ f p n) → (ps : List A) (after : ℕ) (r : Option ℕ) →
      IsLeastAfter (λ n. list_any (λ p. f p n) ps) after r → IsLeastAfter (λ n. list_any (λ p. g p n) ps) after r
  same_least f g e ps after r h = least_like (λ n. list_any (λ p. f p n) ps) (λ n. list_any (λ p. g p n) ps) after r
      (λ n. any_like (λ p. g p n) (λ p. f p n) ps (λ p. e p n)) h

  -- no number passes
  pub nowhere_least : (f : A → ℕ → Bool) → ((p : A) (n : ℕ) → f p n ≡ false) → (ps : List A) (after : ℕ) →
      IsLeastAfter (λ n. list_any (λ p. f p n) ps) after None
  nowhere_least f e ps after = λ n up. any_like (λ p. f p n) (λ p. false) ps (λ p. e p n) ∙ any_none ps

  -- one of two tests
  pub both_least : (f g : A → ℕ → Bool) (ps : List A) (after : ℕ) (r : Option ℕ) →
      IsLeastAfter (λ n. list_any (λ p. f p n) ps || list_any (λ p. g p n) ps) after r → IsLeastAfter (λ n. list_any (λ p. f p n || g p n) ps) after r
  both_least f g ps after r h = least_like (λ n. list_any (λ p. f p n) ps || list_any (λ p. g p n) ps) (λ n. list_any (λ p. f p n || g p n) ps) after r
      (λ n. any_or (λ p. f p n) (λ p. g p n) ps) h

  -- one point more
  pub one_more : (f : A → ℕ → Bool) (ps : List A) (i after : ℕ) (d : A) → i < length ps → (p : A) → p ≡ get_or ps i d → (r : Option ℕ) →
      IsLeastAfter (λ n. list_any (λ q. f q n) (take i ps) || f p n) after r → IsLeastAfter (λ n. list_any (λ q. f q n) (take (i + 1) ps)) after r
  one_more f ps i after d l p e r h = least_like (λ n. list_any (λ q. f q n) (take i ps) || f p n) (λ n. list_any (λ q. f q n) (take (i + 1) ps)) after r
      (λ n. list_any_more (λ q. f q n) ps i d l ∙ ap (λ q. list_any (λ x. f x n) (take i ps) || f q n) (sym e)) h

  pub all_least : (f : A → ℕ → Bool) (ps : List A) (i after : ℕ) (r : Option ℕ) → length ps ≤ i →
      IsLeastAfter (λ n. list_any (λ q. f q n) (take i ps)) after r → IsLeastAfter (λ n. list_any (λ q. f q n) ps) after r
  all_least f ps i after r l h = least_like (λ n. list_any (λ q. f q n) (take i ps)) (λ n. list_any (λ q. f q n) ps) after r
      (λ n. ap (list_any (λ q. f q n)) (sym (take_all i ps l))) h

  -- at one of two lists
  pub joined_least : (f : A → ℕ → Bool) (xs ys zs : List A) → zs ≡ xs ++ ys → (after : ℕ) (r : Option ℕ) →
      IsLeastAfter (λ n. list_any (λ x. f x n) xs || list_any (λ x. f x n) ys) after r → IsLeastAfter (λ n. list_any (λ x. f x n) zs) after r
  joined_least f xs ys zs e after r h = least_like (λ n. list_any (λ x. f x n) xs || list_any (λ x. f x n) ys) (λ n. list_any (λ x. f x n) zs) after r
      (λ n. ap (list_any (λ x. f x n)) e ∙ list_any-append (λ x. f x n) xs ys) h

pub none_least : (ps : List Index) (after : ℕ) → IsLeastAfter (λ n. list_any (λ p. in_blocks [] p n) ps) after None
none_least ps after = λ n up. any_none ps

-- one block more
pub block_more : (xs : List MarkBlock) (i after : ℕ) (d : MarkBlock) → i < length xs → (x : MarkBlock) → x ≡ get_or xs i d → (ps : List Index) (r : Option ℕ) →
    IsLeastAfter (λ n. list_any (λ p. in_blocks (take i xs) p n) ps || (list_any (in_indices x.indices) ps && numbered x.numbers n)) after r →
    IsLeastAfter (λ n. list_any (λ p. in_blocks (take (i + 1) xs) p n) ps) after r
block_more xs i after d l x e ps r h =
    least_like (λ n. list_any (λ p. in_blocks (take i xs) p n) ps || (list_any (in_indices x.indices) ps && numbered x.numbers n))
    (λ n. list_any (λ p. in_blocks (take (i + 1) xs) p n) ps) after r
    (λ n. any_like (λ p. in_blocks (take (i + 1) xs) p n) (λ p. in_blocks (take i xs) p n || (in_indices x.indices p && numbered x.numbers n)) ps
    (λ p. rw e (list_any_more (λ b. in_indices b.indices p && numbered b.numbers n) xs i d l))
    ∙ any_or (λ p. in_blocks (take i xs) p n) (λ p. in_indices x.indices p && numbered x.numbers n) ps
    ∙ ap (λ b. list_any (λ p. in_blocks (take i xs) p n) ps || b) (and_last (numbered x.numbers n) (in_indices x.indices) ps)) h

pub blocks_all : (xs : List MarkBlock) (i after : ℕ) → length xs ≤ i → (ps : List Index) (r : Option ℕ) →
    IsLeastAfter (λ n. list_any (λ p. in_blocks (take i xs) p n) ps) after r → IsLeastAfter (λ n. list_any (λ p. in_blocks xs p n) ps) after r
blocks_all xs i after l ps r h = least_like (λ n. list_any (λ p. in_blocks (take i xs) p n) ps) (λ n. list_any (λ p. in_blocks xs p n) ps) after r
    (λ n. ap (λ bs. list_any (λ p. in_blocks bs p n) ps) (sym (take_all i xs l))) h
