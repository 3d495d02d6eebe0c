-- What the two loops share that copy between the lent table and the rows: the list after so many turns.
use mathlib.Core.Path.{◌≡◌, refl, ◌∙◌, sym, ap}
use mathlib.Core.List.{List, [], ◌∷◌, ◌++◌, map, map-append}
use Prim.Native.Nat.{ℕ, zero, suc, ◌+◌, ◌<◌}
use native.Mathlib.Omega.{arith}
use lib.ListN.{length, get_or, set, take, drop as drop-list, length-map, get_or-map}
use Rattle.std.proofs.lemmas.List.{drop-map}
use Rattle.table_slices.specs.Writes.{over}
use Rattle.table_slices.proofs.Slices.{over_next, over_last}
use Rattle.table.specs.Spelled.{Row}
use Rattle.lent_entries.specs.Lent.{entry_of, row_of, row_of_entry}
use Rattle.lent_entries.specs.declared.Entry.{Entry}

-- ---- the list d after i turns that put what f makes of s over it

module _ {A B : Type 0} (f : A → B) (s : List A) (d : List B) where
  abbrev pub copied : ℕ → List B
  copied i = take i (map f s) ++ drop-list i d

  pub copied_next : (i : ℕ) (z : A) → i < length s → i < length d → set (copied i) i (f (get_or s i z)) ≡ copied (i + 1)
  copied_next i z h k =
      ap (set (copied i) i) (sym (get_or-map f s i z)) ∙ over_next d (map f s) i (f z) k (omega (arith, length-map s f))

  pub copied_last : (i : ℕ) → i ≡ length s → copied i ≡ over d (map f s)
  copied_last i e = over_last d (map f s) i (e ∙ sym (length-map s f))

-- ---- what was put over a list, seen through f

map_over : {A B : Type 0} (f : A → B) (d s : List A) → map f (over d s) ≡ over (map f d) (map f s)
map_over f d s =
    map-append f s (drop-list (length s) d) ∙ ap (λ (r : List _). map f s ++ r)
    (sym (drop-map f (length s) d) ∙ ap (λ (k : ℕ). drop-list k (map f d)) (sym (length-map s f)))

-- rows of five numbers are the rows of their entries
rows_again : (n : ℕ) (rows : List Row) → ((k : ℕ) → k < n → k < length rows → length (get_or rows k []) ≡ 5) → map row_of (map entry_of (take n rows)) ≡ take n rows
rows_again zero rows h = refl
rows_again (suc n) [] h = refl
rows_again (suc n) (r ∷ rows) h =
    rw (row_of_entry r (h 0 (omega arith) (omega arith)), rows_again n rows (λ k u v. h (suc k) (omega arith) (omega arith)))

pub put_rows : (n : ℕ) (rows : List Row) → ((k : ℕ) → k < n → k < length rows → length (get_or rows k []) ≡ 5) → (ys zs : List Entry) →
    zs ≡ over ys (map entry_of (take n rows)) → map row_of zs ≡ over (map row_of ys) (take n rows)
put_rows n rows h ys zs e =
    ap (map row_of) e ∙ map_over row_of ys (map entry_of (take n rows)) ∙ ap (over (map row_of ys)) (rows_again n rows h)
