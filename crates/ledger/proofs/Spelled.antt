-- Pieces of a payload, one after another.
use Rattle.std.proofs.Common.{◌≡◌, inl, inr, ⊎_elim, ℕ, ◌+◌, ◌-◌, ◌/◌, ◌%◌, ◌^◌, ◌≤◌, ◌<◌, List, [], ◌∷◌, ◌++◌, length, take, drop, map, get_or, replicate, refl, sym, ◌∙◌, ap, subst, append_assoc, arith, Result, Ok, Err, OnOk}
use Rattle.std.specs.List.{flat_map}
use Rattle.std.proofs.lemmas.List.{length-append, append-nil, drop-drop, take_more, take_all}
use Rattle.std.proofs.lemmas.List.Concat.{flat_map-cons}
use Rattle.std.proofs.lemmas.Grind.{flat_map-append}
use Rattle.std.specs.Int.{to_le_bytes, w32}
use Rattle.disk_model.specs.Disk.{DiskState, Works, Shows, At, overwritten}
use Rattle.disk_model.proofs.DiskSteps.{Works-none}
use Rattle.disk_changes.specs.Changes.{KeepsFront, Anything}
use Rattle.disk_changes.proofs.Fronts.{filled, more_keeps}
use Rattle.disk_changes.proofs.Showing.{shows_then}
use Rattle.ledger_model.specs.Layouts.{Layout, spelled}
use Rattle.ledger.proofs.Overwriting.{no_gap, at_seam, past_seam}
use Rattle.ledger.specs.Spelling.{Pending, HasSpelled, Goes, Spells}

pub on_ok : {T E : Type 0} (r : Result T E) (P Q : Type 0) → OnOk r P → (P → Q) → OnOk r Q
on_ok (Ok x) P Q p f = f p
on_ok (Err e) P Q p f = tt

pub on_both : {T E : Type 0} (r : Result T E) (P Q R : Type 0) → OnOk r P → OnOk r Q → (P → Q → R) → OnOk r R
on_both (Ok x) P Q R p q f = f p q
on_both (Err e) P Q R p q f = tt

pub goes_then : {a b c : DiskState} {ledger : List ℕ} {p q r : Pending} → Goes a b ledger p q → Goes b c ledger q r → Goes a c ledger p r
goes_then {a} {b} {c} {ledger} {p} {q} {r} f s = record {
  at = s.at ∙ f.at;
  crash = λ honest there.
      let one = f.crash honest there in
      let long : p.at ≤ length (b.seen ledger) = ((one.seen ledger).here refl there).0 in
      let two = s.crash one.honest (omega (arith, long, f.at)) in
      more_keeps a b c ledger p.at one (subst (λ (n : ℕ). Works (At ledger (KeepsFront n)) b c) f.at two);
  shows = λ tells. let one = f.shows tells in shows_then ledger a b c one (s.shows one.tells);
}

pub goes_none : (a : DiskState) (ledger : List ℕ) (p q : Pending) → q.at ≡ p.at → Goes a a ledger p q
goes_none a ledger p q same = record {
  at = same;
  crash = λ honest there. Works-none (At ledger (KeepsFront p.at)) (λ name bytes. record { here = λ e. λ le. (le, refl); elsewhere = λ off. refl }) a honest;
  shows = λ tells. record { tells = tells; seen = λ name. record { here = λ e. tt; elsewhere = λ off. refl } };
}

-- a writer's body begins there too
pub goes_crash : (a b : DiskState) (ledger : List ℕ) (p q : Pending) (at : ℕ) → p.at ≡ at → Goes a b ledger p q → a.honest → at ≤ length (a.seen ledger) → Works (At ledger (KeepsFront at)) a b
goes_crash a b ledger p q at same goes honest there = subst (λ (n : ℕ). Works (At ledger (KeepsFront n)) a b) same (goes.crash honest (omega (arith, same, there)))

pub spells_then : {a b c : DiskState} {ledger : List ℕ} {p q r : Pending} {xs ys : List ℕ} → Spells a b ledger p q xs → Spells b c ledger q r ys → Spells a c ledger p r (xs ++ ys)
spells_then {a} {b} {c} {ledger} {p} {q} {r} {xs} {ys} f s = record {
  size = omega (arith, f.size, s.size, length-append xs ys);
  text = λ start from earlier has. subst (λ (t : List ℕ). HasSpelled c ledger start from r t) (append_assoc earlier xs ys) (s.text start from (earlier ++ xs) (f.text start from earlier has));
}

pub spells_as : {a b : DiskState} {ledger : List ℕ} {p q : Pending} {xs ys : List ℕ} → Spells a b ledger p q xs → xs ≡ ys → Spells a b ledger p q ys
spells_as {a} {b} {ledger} {p} {q} {xs} {ys} f same = subst (λ (t : List ℕ). Spells a b ledger p q t) same f

-- a call that ends another
pub spells_last : {T E : Type 0} {a b : DiskState} {ledger : List ℕ} {p q : Pending} {xs : List ℕ} (result : Result T E) (c : DiskState) (r : Pending) (ys : List ℕ) → Spells a b ledger p q xs → OnOk result (Spells b c ledger q r ys) → OnOk result (Spells a c ledger p r (xs ++ ys))
spells_last (Ok x) c r ys f s = spells_then f s
spells_last (Err e) c r ys f s = tt

-- one write behind another
overwritten_more : (old : List ℕ) (place : ℕ) (xs ys : List ℕ) → overwritten (overwritten old place xs) (place + length xs) ys ≡ overwritten old place (xs ++ ys)
overwritten_more old place xs ys =
    let front : List ℕ = take place (old ++ replicate (place - length old) 0) in
    let behind : List ℕ = drop (place + length xs) old in
    let mid : List ℕ = front ++ xs ++ behind in
    let long : length (front ++ xs) ≡ place + length xs = omega (arith, length-append front xs, filled old place) in
    let last : drop (place + length xs + length ys) mid ≡ drop (place + length (xs ++ ys)) old =
    sym (drop-drop (length ys) (place + length xs) mid) ∙ ap (drop (length ys)) (past_seam (front ++ xs) behind (place + length xs) long) ∙ drop-drop (length ys) (place + length xs) old
    ∙ ap (λ (n : ℕ). drop n old) (let e : place + length xs + length ys ≡ place + length (xs ++ ys) = omega (arith, length-append xs ys) in e) in
    no_gap mid ys (place + length xs) (omega (arith, long, length-append (front ++ xs) behind))
    ∙ ap (λ (t : List ℕ). t ++ ys ++ drop (place + length xs + length ys) mid) (at_seam (front ++ xs) behind (place + length xs) long)
    ∙ ap (λ (t : List ℕ). (front ++ xs) ++ ys ++ t) last
    ∙ ap (λ (t : List ℕ). t ++ drop (place + length (xs ++ ys)) old) (append_assoc front xs ys)

-- a piece is written: what waited, and more
written_text : (before now : DiskState) (ledger : List ℕ) (old new : Pending) (bytes more : List ℕ) → (before.tells → now.tells) → (before.tells → now.seen ledger ≡ overwritten (before.seen ledger) (old.at + 8 + old.count) bytes)
    → new.at ≡ old.at → new.count ≡ old.count + length bytes → new.ahead ≡ [] → old.ahead ++ more ≡ bytes
    → (start : List ℕ) (from : ℕ) (earlier : List ℕ) → HasSpelled before ledger start from old earlier → HasSpelled now ledger start from new (earlier ++ more)
written_text before now ledger old new bytes more tells written at count none all start from earlier has =
    let place : old.at + 8 + old.count ≡ old.at + 8 + from + length has.done = omega (arith, has.count) in
    record {
      tells = tells has.tells;
      done = has.done ++ bytes;
      parts = ap (λ (t : List ℕ). t ++ more) has.parts ∙ append_assoc has.done old.ahead more ∙ ap (λ (t : List ℕ). has.done ++ t) all ∙ sym (append-nil (has.done ++ bytes)) ∙ ap (λ (t : List ℕ). (has.done ++ bytes) ++ t) (sym none);
      count = omega (arith, count, has.count, length-append has.done bytes);
      seen = inr (⊎_elim
          (λ nothing.
          let first : old.at + 8 + old.count ≡ new.at + 8 + from = omega (arith, has.count, ap length nothing.0, at) in
          written has.tells ∙ ap (λ (t : List ℕ). overwritten t (old.at + 8 + old.count) bytes) nothing.1 ∙ ap (λ (n : ℕ). overwritten start n bytes) first ∙ ap (λ (t : List ℕ). overwritten start (new.at + 8 + from) (t ++ bytes)) (sym nothing.0))
          (λ some. written has.tells ∙ ap (λ (t : List ℕ). overwritten t (old.at + 8 + old.count) bytes) some ∙ ap (λ (n : ℕ). overwritten (overwritten start (old.at + 8 + from) has.done) n bytes) place
          ∙ overwritten_more start (old.at + 8 + from) has.done bytes ∙ ap (λ (n : ℕ). overwritten start (n + 8 + from) (has.done ++ bytes)) (sym at))
          has.seen);
    }

pub spells_written : (before now : DiskState) (ledger : List ℕ) (old new : Pending) (bytes more : List ℕ) → (before.tells → Shows (At ledger Anything) before now) → (before.tells → now.seen ledger ≡ overwritten (before.seen ledger) (old.at + 8 + old.count) bytes)
    → new.at ≡ old.at → new.count ≡ old.count + length bytes → new.ahead ≡ [] → old.ahead ++ more ≡ bytes → Spells before now ledger old new more
spells_written before now ledger old new bytes more shows written at count none all = record {
  size = omega (arith, count, ap length none, ap length (sym all), length-append old.ahead more);
  text = written_text before now ledger old new bytes more (λ tells. (shows tells).tells) written at count none all;
}

-- a piece waits
pub spells_held : (disk : DiskState) (ledger : List ℕ) (old new : Pending) (bytes : List ℕ) → new.at ≡ old.at → new.count ≡ old.count → new.ahead ≡ old.ahead ++ bytes → Spells disk disk ledger old new bytes
spells_held disk ledger old new bytes at count ahead = record {
  size = omega (arith, count, ap length ahead, length-append old.ahead bytes);
  text = λ start from earlier has. record {
    tells = has.tells;
    done = has.done;
    parts = ap (λ (t : List ℕ). t ++ bytes) has.parts ∙ append_assoc has.done old.ahead bytes ∙ ap (λ (t : List ℕ). has.done ++ t) (sym ahead);
    count = count ∙ has.count;
    seen = ⊎_elim (λ nothing. inl nothing) (λ some. inr (some ∙ ap (λ (n : ℕ). overwritten start (n + 8 + from) has.done) (sym at))) has.seen;
  };
}

-- all that was spelled is written
pub spelled_whole : (before now : DiskState) (ledger : List ℕ) (old new : Pending) (bytes : List ℕ) → Spells before now ledger old new bytes → old.ahead ≡ [] → new.ahead ≡ [] → new.at ≡ old.at → 0 < length bytes → before.tells
    → now.seen ledger ≡ overwritten (before.seen ledger) (old.at + 8 + old.count) bytes
spelled_whole before now ledger old new bytes spells none after at some tells =
    let first : HasSpelled before ledger (before.seen ledger) old.count old [] = record { tells = tells; done = []; parts = sym none; count = omega arith; seen = inl (refl, refl) } in
    let last = spells.text (before.seen ledger) old.count [] first in
    let all : bytes ≡ last.done = last.parts ∙ ap (λ (t : List ℕ). last.done ++ t) after ∙ append-nil last.done in
    ⊎_elim (λ nothing. absurd (omega (arith, some, ap length all, ap length nothing.0)))
    (λ wrote. wrote ∙ ap (λ (n : ℕ). overwritten (before.seen ledger) (n + 8 + old.count) last.done) at ∙ ap (overwritten (before.seen ledger) (old.at + 8 + old.count)) (sym all))
    last.seen

-- a length's low 32 bits
pub low_word : (n : ℕ) → to_le_bytes w32 (n % 2 ^ 32) ≡ to_le_bytes w32 n
low_word n =
    let a : n % 4294967296 % 256 ≡ n % 256 = omega arith in
    let b : n % 4294967296 / 256 % 256 ≡ n / 256 % 256 = omega arith in
    let c : n % 4294967296 / 65536 % 256 ≡ n / 65536 % 256 = omega arith in
    let d : n % 4294967296 / 16777216 % 256 ≡ n / 16777216 % 256 = omega arith in
    λ i. a i ∷ (b i ∷ (c i ∷ (d i ∷ [])))

-- items behind each other, one more
pub joined_more : {A : Type 0} (spell : A → List ℕ) (items : List A) (i : ℕ) (d : A) → i < length items → flat_map spell (take i items) ++ spell (get_or items i d) ≡ flat_map spell (take (i + 1) items)
joined_more spell items i d lt = sym (
    ap (flat_map spell) (take_more items i d lt) ∙ flat_map-append spell (take i items) (get_or items i d ∷ [])
    ∙ ap (λ (t : List ℕ). flat_map spell (take i items) ++ t) (flat_map-cons spell (get_or items i d) [] ∙ append-nil (spell (get_or items i d)))
    )

-- items whose bytes don't depend on those before them
pub joined_items : {A B : Type 0} (item : List A → Layout A) (f : B → A) (spell : B → List ℕ) → ((before : List A) (b : B) → (item before).spell (f b) ≡ spell b) → (before : List A) (xs : List B) → flat_map spell xs ≡ spelled item before (map f xs)
joined_items item f spell each before [] = refl
joined_items item f spell each before (x ∷ xs) = flat_map-cons spell x xs ∙ (λ i. (sym (each before x)) i ++ joined_items item f spell each (before ++ f x ∷ []) xs i)

pub same_joined : {A : Type 0} (item : List A → Layout A) (spell : A → List ℕ) → ((before : List A) (a : A) → (item before).spell a ≡ spell a) → (before xs : List A) → flat_map spell xs ≡ spelled item before xs
same_joined item spell each before [] = refl
same_joined item spell each before (x ∷ xs) = flat_map-cons spell x xs ∙ (λ i. (sym (each before x)) i ++ same_joined item spell each (before ++ x ∷ []) xs i)

took_none : {A : Type 0} (items : List A) → take 0 items ≡ []
took_none [] = refl
took_none (x ∷ xs) = refl

-- a count, and no item yet
pub spells_none : {A : Type 0} {a b : DiskState} {ledger : List ℕ} {p q : Pending} {front : List ℕ} (spell : A → List ℕ) (items : List A) → Spells a b ledger p q front → Spells a b ledger p q (front ++ flat_map spell (take 0 items))
spells_none {A} {a} {b} {ledger} {p} {q} {front} spell items s = spells_as s (sym (ap (λ (t : List A). front ++ flat_map spell t) (took_none items) ∙ append-nil front))

-- one item more
pub spells_more : {A : Type 0} {a b c : DiskState} {ledger : List ℕ} {p q r : Pending} (front : List ℕ) (spell : A → List ℕ) (items : List A) (i : ℕ) (item : A)
    → Spells a b ledger p q (front ++ flat_map spell (take i items)) → Spells b c ledger q r (spell item) → i < length items → item ≡ get_or items i item → Spells a c ledger p r (front ++ flat_map spell (take (i + 1) items))
spells_more front spell items i item so_far here lt is =
    spells_as (spells_then so_far here) (append_assoc front (flat_map spell (take i items)) (spell item) ∙ ap (λ (t : List ℕ). front ++ (flat_map spell (take i items) ++ t)) (ap spell is) ∙ ap (λ (t : List ℕ). front ++ t) (joined_more spell items i item lt))

-- all items
pub spells_all : {A : Type 0} {a b : DiskState} {ledger : List ℕ} {p q : Pending} (front : List ℕ) (spell : A → List ℕ) (items : List A) (i : ℕ) (bytes : List ℕ) → Spells a b ledger p q (front ++ flat_map spell (take i items)) → length items ≤ i → front ++ flat_map spell items ≡ bytes → Spells a b ledger p q bytes
spells_all {A} front spell items i bytes s past same = spells_as s (ap (λ (t : List A). front ++ flat_map spell t) (take_all i items past) ∙ same)
