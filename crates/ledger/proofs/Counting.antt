-- Items one after another.
use Rattle.std.proofs.Common.{◌≡◌, inl, inr, ℕ, ◌+◌, ◌<◌, List, [], ◌∷◌, ◌++◌, length, refl, sym, ◌∙◌, ap, subst, append_assoc, arith, Result, Ok, Err}
use Rattle.std.proofs.lemmas.List.{length-append, append-nil}
use Rattle.ledger_model.specs.Layouts.{Layout, field, AllFit, spelled, listed, counted}
use Rattle.ledger.specs.declared.refused.LedgerRefused.{LedgerRefused}
use Rattle.ledger.specs.declared.refused.LedgerRefused.TheVariants.{DiskFault, LedgerFault}
use Rattle.ledger.specs.Reader.{IsRead, SomeRead, RefusedAt, Checks, left_of}
use Rattle.ledger.specs.Counted.{SomeItems}
use Rattle.ledger.proofs.Moving.{stood_then, stood_as}

pub fit_snoc : {A : Type 0} (item : List A → Layout A) (before xs : List A) (x : A) → AllFit item before xs → (item (before ++ xs)).Fits x → AllFit item before (xs ++ x ∷ [])
fit_snoc {A} item before [] x f fits = (subst (λ (b : List A). (item b).Fits x) (append-nil before) fits, tt)
fit_snoc {A} item before (y ∷ ys) x f fits = (f.0, fit_snoc item (before ++ y ∷ []) ys x f.1 (subst (λ (b : List A). (item b).Fits x) (sym (append_assoc before (y ∷ []) ys)) fits))

pub spelled_snoc : {A : Type 0} (item : List A → Layout A) (before xs : List A) (x : A) → spelled item before (xs ++ x ∷ []) ≡ spelled item before xs ++ (item (before ++ xs)).spell x
spelled_snoc {A} item before [] x = append-nil ((item before).spell x) ∙ ap (λ (b : List A). (item b).spell x) (sym (append-nil before))
spelled_snoc {A} item before (y ∷ ys) x =
    ap (λ (t : List ℕ). (item before).spell y ++ t) (spelled_snoc item (before ++ y ∷ []) ys x)
    ∙ ap (λ (b : List A). (item before).spell y ++ (spelled item (before ++ y ∷ []) ys ++ (item b).spell x)) (append_assoc before (y ∷ []) ys)
    ∙ sym (append_assoc ((item before).spell y) (spelled item (before ++ y ∷ []) ys) ((item (before ++ (y ∷ ys))).spell x))

pub items_none : {A : Type 0} (item : List A → Layout A) (file : List ℕ) (to at : ℕ) → SomeItems item file to at at 0
items_none item file to at = record { items = []; count_is = refl; fit = tt; stood = record { split = refl; moved = omega arith } }

-- one item more
unfoldable pub items_more : {A : Type 0} (item : List A → Layout A) (file : List ℕ) (to from mid at count : ℕ) (some : SomeItems item file to from mid count) (value : A) → IsRead (item some.items) file to mid at value → SomeItems item file to from at (count + 1)
items_more item file to from mid at count some value read = record {
  items = some.items ++ value ∷ [];
  count_is = omega (arith, length-append some.items (value ∷ []), some.count_is);
  fit = fit_snoc item [] some.items value some.fit read.fits;
  stood = stood_as file to from at _ _ (sym (spelled_snoc item [] some.items value)) (stood_then file to from mid at _ _ some.stood read.stood);
}

-- an item that is refused
pub items_refused : {A : Type 0} (item : List A → Layout A) (file : List ℕ) (to from mid count all : ℕ) (some : SomeItems item file to from mid count) → count < all → (refused : LedgerRefused) → RefusedAt (item some.items) file to mid refused → RefusedAt (listed item all) file to from refused
items_refused item file to from mid count all some fewer DiskFault broken = tt
items_refused item file to from mid count all some fewer (LedgerFault part at) broken = (
  broken.0,
  record {
    later = length (spelled item [] some.items) + broken.1.later;
    breaks = record { items = some.items; more = left_of file to mid; later = broken.1.later; fewer = omega (arith, some.count_is, fewer); fit = some.fit; split = some.stood.split; breaks = broken.1.breaks; place_is = refl };
    at_is = omega (arith, broken.1.at_is, some.stood.moved);
  },
)

pub items_read : {A : Type 0} (item : List A → Layout A) (file : List ℕ) (to from at count : ℕ) → SomeItems item file to from at count → SomeRead (listed item count) file to from at
items_read item file to from at count some = record { value = some.items; read = record { fits = (some.count_is, some.fit); stood = some.stood } }

-- a count and as many items
pub counted_unsized : {A : Type 0} (spell : ℕ → List ℕ) (bound : ℕ) (item : List A → Layout A) (file : List ℕ) (to from : ℕ) (refused : LedgerRefused) → RefusedAt (field (λ (n : ℕ). n < bound) spell) file to from refused → RefusedAt (counted spell bound item) file to from refused
counted_unsized spell bound item file to from DiskFault broken = tt
counted_unsized spell bound item file to from (LedgerFault part at) broken = (broken.0, record { later = broken.1.later; breaks = inl broken.1.breaks; at_is = broken.1.at_is })

pub counted_refused : {A : Type 0} (spell : ℕ → List ℕ) (bound : ℕ) (item : List A → Layout A) (file : List ℕ) (to from mid n : ℕ) (refused : LedgerRefused) → IsRead (field (λ (n : ℕ). n < bound) spell) file to from mid n → RefusedAt (listed item n) file to mid refused → RefusedAt (counted spell bound item) file to from refused
counted_refused spell bound item file to from mid n DiskFault read broken = tt
counted_refused spell bound item file to from mid n (LedgerFault part at) read broken = (
  broken.0,
  record {
    later = length (spell n) + broken.1.later;
    breaks = inr (record { value = n; more = left_of file to mid; later = broken.1.later; fits = read.fits; split = read.stood.split; breaks = broken.1.breaks; place_is = refl });
    at_is = omega (arith, broken.1.at_is, read.stood.moved);
  },
)

pub counted_read : {A : Type 0} (spell : ℕ → List ℕ) (bound : ℕ) (item : List A → Layout A) (file : List ℕ) (to from mid at n : ℕ) → IsRead (field (λ (n : ℕ). n < bound) spell) file to from mid n → SomeRead (listed item n) file to mid at → SomeRead (counted spell bound item) file to from at
counted_read spell bound item file to from mid at n read some = record {
  value = some.value;
  read = record {
    fits = (subst (λ (k : ℕ). k < bound) (sym some.read.fits.0) read.fits, some.read.fits.1);
    stood = stood_as file to from at _ _ (ap (λ (k : ℕ). spell k ++ spelled item [] some.value) (sym some.read.fits.0)) (stood_then file to from mid at _ _ read.stood some.read.stood);
  };
}

pub checks_counted : {A R : Type 0} (spell : ℕ → List ℕ) (bound : ℕ) (item : List A → Layout A) (file : List ℕ) (to from mid at n : ℕ) → IsRead (field (λ (k : ℕ). k < bound) spell) file to from mid n → (r : Result R LedgerRefused) → Checks (listed item n) file to mid at r → Checks (counted spell bound item) file to from at r
checks_counted spell bound item file to from mid at n read (Ok x) some = counted_read spell bound item file to from mid at n read some
checks_counted spell bound item file to from mid at n read (Err e) broken = counted_refused spell bound item file to from mid n e read broken
