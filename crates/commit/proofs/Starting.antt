-- Beginning a ledger that has no entries.
use Rattle.std.proofs.Common.{◌≡◌, inl, ⊎_elim, ℕ, ◌≤◌, ◌<◌, List, [], ◌∷◌, ◌++◌, length, refl, sym, ◌∙◌, ap, subst, arith}
use Rattle.disk_model.specs.Disk.{Files, DiskState, IsImage, At, Works, IsSynced, Means, Stands, Nothing}
use Rattle.disk_model.proofs.DiskSteps.{same_or_not, Stands-start, Stands-works}
use Rattle.ledger_model.specs.Ledgers.{HasPairs, IsLedger, mark}
use Rattle.recovery_model.specs.Recovered.{IsOther, Recovers}
use Rattle.disk_changes.specs.Changes.{StaysShort}
use Rattle.commit.specs.States.{HasNone, Beginning, IsSettled}
use Rattle.commit.proofs.GateOpening.{recovers_plain}

module _ (start : DiskState) (ledger stage : List ℕ) (files : Files) (is : HasNone start ledger stage files) where
  pub begin_means : Means (Beginning ledger stage files) (Recovers ledger stage [] files)
  begin_means image known = recovers_plain ledger stage [] [] files image ((known ledger).ledger_is refl) refl refl (λ name other. (known name).file_is other)

  pub begin_start : ((image : Files) → start.left_since start.moment image → IsImage start image) → IsImage start start.seen → Stands start start (Beginning ledger stage files) (Recovers ledger stage [] files)
  begin_start only_now seen_left = Stands-start start (Beginning ledger stage files) (Recovers ledger stage [] files) is.honest only_now seen_left
      (λ name c left. record {
        ledger_is = λ e. subst (λ (b : List ℕ). IsLedger b []) (sym (is.ledger_synced c (subst (λ (n : List ℕ). start.may_leave n c) e left))) is.is_ledger;
        file_is = λ other. is.files_are name c other left;
      }) begin_means

  pub begin_rests : (mid new : DiskState) → Stands start mid (Beginning ledger stage files) (Recovers ledger stage [] files) → Works Nothing mid new → Stands start new (Beginning ledger stage files) (Recovers ledger stage [] files)
  begin_rests mid new so_far work = Stands-works start mid new (Beginning ledger stage files) (Beginning ledger stage files) (Recovers ledger stage [] files) Nothing so_far work
      (λ name d c known same. subst (Beginning ledger stage files name) (sym same) known) begin_means

  -- a short ledger stays short
  pub begin_made : (mid new : DiskState) → ((image : Files) → start.left_since start.moment image → IsImage start image) → IsImage start start.seen → Works Nothing start mid → length (start.seen ledger) ≤ 18 → Works (At ledger (StaysShort 18)) mid new
      → Stands start new (Beginning ledger stage files) (Recovers ledger stage [] files)
  begin_made mid new only_now seen_left read short work =
      Stands-works start mid new Short (Beginning ledger stage files) (Recovers ledger stage [] files) (At ledger (StaysShort 18))
      (Stands-works start start mid Short Short (Recovers ledger stage [] files) Nothing
      (Stands-start start Short (Recovers ledger stage [] files) is.honest only_now seen_left first short_means) read (λ name d c known same. subst (Short name) (sym same) known) short_means)
      work grows begin_means
    where
      Short : List ℕ → List ℕ → Type 0
      Short name file = (name ≡ ledger → length file ≤ 18) × (IsOther ledger stage name → file ≡ files name)

      weaken : (name file : List ℕ) → (name ≡ ledger → length file ≤ 18) × (IsOther ledger stage name → file ≡ files name) → Beginning ledger stage files name file
      weaken name file known = record { ledger_is = λ e. inl (known.0 e, refl); file_is = known.1 }

      short_means : Means (λ name file. (name ≡ ledger → length file ≤ 18) × (IsOther ledger stage name → file ≡ files name)) (Recovers ledger stage [] files)
      short_means image known = begin_means image (λ name. weaken name (image name) (known name))

      first : (name c : List ℕ) → start.may_leave name c → (name ≡ ledger → length c ≤ 18) × (IsOther ledger stage name → c ≡ files name)
      first name c left = (
        λ e. omega (arith, ap length (is.ledger_synced c (subst (λ (n : List ℕ). start.may_leave n c) e left)), short),
        λ other. is.files_are name c other left,
      )

      grows : (name d c : List ℕ) → (name ≡ ledger → length d ≤ 18) × (IsOther ledger stage name → d ≡ files name) → At ledger (StaysShort 18) name d c → Beginning ledger stage files name c
      grows name d c known change = ⊎_elim
          (λ e. record { ledger_is = λ e2. inl (change.here e (known.0 e), refl); file_is = λ other. absurd (other.0 e) })
          (λ off. weaken name c (λ e. absurd (off e), λ other. change.elsewhere off ∙ known.1 other))
          (same_or_not name ledger)

  pub begun_new : (now : DiskState) → Stands start now (Beginning ledger stage files) (Recovers ledger stage [] files) → now.seen ledger ≡ mark ++ 0 ∷ 0 ∷ [] → IsSynced now ledger → IsSettled now ledger stage 16 [] files
  begun_new now so_far shown synced = record {
    honest = so_far.honest;
    differ = is.differ;
    pairs = [];
    fit = tt;
    finished = tt;
    rest = 0 ∷ 0 ∷ [];
    split = shown;
    closed = (omega arith, omega arith);
    ledger_synced = synced;
    place_is = refl;
    entries_are = refl;
    files_are = λ name c other left. (so_far.knows name c left).file_is other;
  }

  pub begun_before : (now : DiskState) → Works Nothing start now → 18 < length (start.seen ledger) → IsSettled now ledger stage 16 [] files
  begun_before now work long = ⊎_elim
      (λ short. absurd (omega (arith, short.0, long)))
      (λ (has : HasPairs (start.seen ledger) []). record {
        honest = work.honest;
        differ = is.differ;
        pairs = [];
        fit = tt;
        finished = tt;
        rest = has.rest;
        split = work.seen ledger ∙ has.split;
        closed = has.closed;
        ledger_synced = λ c left. let o = work.leaves ledger c left in o.2 ∙ is.ledger_synced o.0 o.1 ∙ sym (work.seen ledger);
        place_is = refl;
        entries_are = refl;
        files_are = λ name c other left. let o = work.leaves name c left in o.2 ∙ is.files_are name o.0 other o.1;
      })
      is.is_ledger
