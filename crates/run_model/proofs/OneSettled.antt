-- The entries of a settled state tell its files, where the meaning of a query is one.
use Rattle.std.proofs.Common.{◌≡◌, ◌⊎◌, ⊎_elim, ℕ, zero, suc, Bool, List, [], ◌∷◌, ◌++◌, filter, Some, refl, sym, ◌∙◌, subst, inl, inr}
use Rattle.std.specs.Prelude.{slice_get}
use Rattle.std.specs.List.{AllZip}
use Rattle.std.proofs.lemmas.Bool.{cases_Bool}
use Rattle.disk_model.specs.Disk.{Files}
use Rattle.ledger_model.specs.Entries.{Entry}
use Rattle.recovery_model.proofs.OneState.{listed_or_not}
use Rattle.run_model.specs.Logs.{Written}
use Rattle.lp_model.specs.Complete.{IsAmong}
use Rattle.run_model.specs.Meanings.{Meaning, Given, IsOne, asked_of}
use Rattle.run_model.specs.Right.{parts_of, takes_part, IsOutput, IsNext, FollowFrom, IsSettled}

-- the item that another one is paired with
pub paired : {A B : Type 0} (R : A → B → Type 0) (xs : List A) (ys : List B) (k : ℕ) (y : B) → AllZip R xs ys → slice_get ys k ≡ Some y → (x : A) × IsAmong x xs × R x y
paired R [] [] k y zip at = absurd (cc)
paired R [] (z ∷ ys) k y zip at = absurd zip
paired R (x ∷ xs) [] k y zip at = absurd zip
paired R (x ∷ xs) (z ∷ ys) zero y (r, zip) at = let h : Some z ≡ Some y = at in let same : z ≡ y = cc in (x, inl refl, subst (R x) same r)
paired R (x ∷ xs) (z ∷ ys) (suc k) y (r, zip) at = let more = paired R xs ys k y zip at in (more.0, inr more.1, more.2)

pub kept_among : {A : Type 0} (test : A → Bool) (x : A) (xs : List A) → IsAmong x (filter test xs) → IsAmong x xs
kept_among test x [] among = absurd among
kept_among test x (y ∷ xs) among = elim (cases_Bool (test y)) [
  | inl takes ↦
      let here : (x ≡ y) ⊎ IsAmong x (filter test xs) = rw takes at among in
      ⊎_elim (λ e. inl e) (λ more. inr (kept_among test x xs more)) here
  | inr leaves ↦ inr (kept_among test x xs (rw leaves at among))
]

one_next : (meaning : Meaning) (written : Written) → IsOne meaning → (before : List Entry) (files : Files) (entry : Entry) (a b : Files) → IsNext meaning written before files entry a → IsNext meaning written before files entry b → (name : List ℕ) → a name ≡ b name
one_next meaning written one before files entry a b x y name =
    let given : x.given ≡ y.given = one (asked_of entry) (parts_of (meaning.format entry.input) written entry.spans) entry.lists x.given y.given x.right.writes.gives y.right.writes.gives in
    let mode = meaning.mode entry.words in
    ⊎_elim
    (λ there.
    let p = paired (IsOutput mode files) (filter (takes_part mode files) x.given.splits) entry.outputs there.0 there.1 x.right.writes.outputs there.2 in
    let among = kept_among (takes_part mode files) p.0 x.given.splits p.1 in
    let other : IsAmong p.0 y.given.splits = subst (λ (g : Given). IsAmong p.0 g.splits) given among in
    (x.files_are name).listed there.0 there.1 p.0 there.2 there.3 (among, sym p.2.name_is) ∙ sym ((y.files_are name).listed there.0 there.1 p.0 there.2 there.3 (other, sym p.2.name_is)))
    (λ none. (x.files_are name).unlisted none ∙ sym ((y.files_are name).unlisted none))
    (listed_or_not entry.outputs name)

one_follow : (meaning : Meaning) (written : Written) → IsOne meaning → (before : List Entry) (files : Files) (entries : List Entry) (a b : Files) → FollowFrom meaning written before files entries a → FollowFrom meaning written before files entries b → (name : List ℕ) → a name ≡ b name
one_follow meaning written one before files [] a b f g = λ name. f name ∙ sym (g name)
one_follow meaning written one before files (entry ∷ entries) a b (x, first, f) (y, second, g) =
    let same : y ≡ x = λ i. λ name. one_next meaning written one before files entry y x second first name i in
    one_follow meaning written one (before ++ entry ∷ []) x entries a b f (subst (λ (z : Files). FollowFrom meaning written (before ++ entry ∷ []) z entries b) same g)

-- two settled states with the same entries have the same files
pub one_settled : (meaning : Meaning) (written : Written) → IsOne meaning → (start : Files) (entries : List Entry) (a b : Files) → IsSettled meaning written start entries a → IsSettled meaning written start entries b → (name : List ℕ) → a name ≡ b name
one_settled meaning written one start entries a b s t = one_follow meaning written one [] start entries a b s t
