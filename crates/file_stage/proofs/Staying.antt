-- What a write and a cut leave of texts.
use Rattle.std.proofs.Common.{◌≡◌, ◌≢◌, ⊎_elim, ℕ, zero, suc, ◌+◌, ◌-◌, ◌≤◌, ◌<◌, List, ◌++◌, length, take, drop, replicate, refl, sym, ◌∙◌, ap, subst, arith, length-append, take-append-drop}
use Rattle.std.proofs.lemmas.List.{take-take, length-take, take_at, take_all, drop-take, drop-append-le, take-append-le, length-drop}
use Rattle.disk_model.specs.Disk.{DiskState, Shows, At, Nothing, Torn, Shortened, overwritten, start_of}
use Rattle.disk_model.proofs.DiskSteps.{same_or_not}
use Rattle.disk_changes.specs.Changes.{KeepsFront}
use Rattle.disk_changes.proofs.Fronts.{filled, torn_keeps, cut_keeps, KeepsFront-joins}
use Rattle.file_stage.specs.FileTexts.{IsThere}

-- a text reaches no further than its file
pub reaches : (file : List ℕ) (base size : ℕ) (text : List ℕ) → IsThere file base size text → 0 < size → base + size ≤ length file
reaches file base size text there some = omega (arith, there.whole, ap length there.same, length-take size (drop base file), length-drop base file, some)

-- with zero bytes behind the file or without, the text is the same
filled_text : (old zeros : List ℕ) (base size : ℕ) → (0 < size → base + size ≤ length old) → take size (drop base (old ++ zeros)) ≡ take size (drop base old)
filled_text old zeros base zero long = refl
filled_text old zeros base (suc n) long =
    let within : base + suc n ≤ length old = long (omega arith) in
    ap (take (suc n)) (drop-append-le base old zeros (omega (arith, within)))
    ∙ take-append-le (suc n) (drop base old) zeros (omega (arith, within, length-drop base old))

-- bytes written behind a text make it longer
pub overwrite_behind : (old : List ℕ) (base size : ℕ) (text bytes : List ℕ) → IsThere old base size text → IsThere (overwritten old (base + size) bytes) base (size + length bytes) (text ++ bytes)
overwrite_behind old base size text bytes there =
    let zeros : List ℕ = replicate (base + size - length old) 0 in
    let rest : List ℕ = drop (base + size + length bytes) old in
    let front : List ℕ = take (base + size) (old ++ zeros) in
    let long : length front ≡ base + size = filled old (base + size) in
    let text_is : drop base front ≡ text = drop-take base size (old ++ zeros) ∙ filled_text old zeros base size (λ some. reaches old base size text there some) ∙ sym there.same in
    let behind : drop base ((front ++ bytes) ++ rest) ≡ (text ++ bytes) ++ rest =
    drop-append-le base (front ++ bytes) rest (omega (arith, long, length-append front bytes))
    ∙ ap (λ (l : List ℕ). l ++ rest) (drop-append-le base front bytes (omega (arith, long)) ∙ ap (λ (l : List ℕ). l ++ bytes) text_is) in
    let whole : length (text ++ bytes) ≡ size + length bytes = length-append text bytes ∙ ap (λ (n : ℕ). n + length bytes) there.whole in
    record { whole = whole; same = sym (ap (take (size + length bytes)) behind ∙ take_at (text ++ bytes) rest (size + length bytes) whole) }

-- a cut no further forward than its end leaves a text
pub cut_leaves : (old new : List ℕ) (base size to : ℕ) (text : List ℕ) → base + size ≤ to → Shortened to old new → IsThere old base size text → IsThere new base size text
cut_leaves old new base zero to text le cut there = record { whole = there.whole; same = there.same }
cut_leaves old new base (suc n) to text le cut there =
    let long : base + suc n ≤ length old = reaches old base (suc n) text there (omega arith) in
    let enough : base + suc n ≤ length new = omega (arith, le, long, cut.no_shorter) in
    record { whole = there.whole; same = there.same ∙ sym (drop-take base (suc n) old) ∙ ap (drop base) (sym (take-take (base + suc n) (length new) old enough)) ∙ ap (λ (l : List ℕ). drop base (take (base + suc n) l)) (sym cut.front) ∙ drop-take base (suc n) new }

-- a write from the base on keeps the bytes before it
pub write_keeps_front : (old new : DiskState) (name : List ℕ) (base place to : ℕ) → base ≤ place → Shows (At name (Torn (start_of (old.seen name) place) to)) old new → Shows (At name (KeepsFront base)) old new
write_keeps_front old new name base place to le shows = record {
  tells = shows.tells;
  seen = λ other. record {
    here = λ is there. front other is there;
    elsewhere = (shows.seen other).elsewhere;
  };
}
  where
    front : (other : List ℕ) → other ≡ name → KeepsFront base (old.seen other) (new.seen other)
    front other is there =
        let same : length (old.seen name) ≡ length (old.seen other) = ap (λ (n : List ℕ). length (old.seen n)) (sym is) in
        torn_keeps base (start_of (old.seen name) place) to (old.seen other) (new.seen other) (omega (arith, le, there, same)) ((shows.seen other).here is) there

-- and so does a cut
pub cut_keeps_front : (old new : DiskState) (name : List ℕ) (base to : ℕ) → base ≤ to → Shows (At name (Shortened to)) old new → Shows (At name (KeepsFront base)) old new
cut_keeps_front old new name base to le shows = record {
  tells = shows.tells;
  seen = λ other. record {
    here = λ is. cut_keeps base to (old.seen other) (new.seen other) le ((shows.seen other).here is);
    elsewhere = (shows.seen other).elsewhere;
  };
}

pub reads_keep_front : (old new : DiskState) (name : List ℕ) (base : ℕ) → Shows Nothing old new → Shows (At name (KeepsFront base)) old new
reads_keep_front old new name base shows = record {
  tells = shows.tells;
  seen = λ other. record {
    here = λ is there. subst (λ (l : List ℕ). (base ≤ length l) × (take base l ≡ take base (old.seen other))) (sym (shows.seen other)) (there, refl);
    elsewhere = λ off. shows.seen other;
  };
}

-- one change of a file behind its base and then another
pub front_stays : (a b c : DiskState) (name : List ℕ) (base : ℕ) → Shows (At name (KeepsFront base)) a b → Shows (At name (KeepsFront base)) b c → Shows (At name (KeepsFront base)) a c
front_stays a b c name base f s = record {
  tells = s.tells;
  seen = λ other. record {
    here = λ is. KeepsFront-joins base (a.seen other) (b.seen other) (c.seen other) ((f.seen other).here is) ((s.seen other).here is);
    elsewhere = λ off. (s.seen other).elsewhere off ∙ (f.seen other).elsewhere off;
  };
}

-- a file that keeps its front, has a text behind it and ends there
pub whole_file : (old new : List ℕ) (base size : ℕ) (text : List ℕ) → base ≤ length old → KeepsFront base old new → IsThere new base size text → length new ≤ base + size → new ≡ take base old ++ text
whole_file old new base size text within keeps there short =
    let all : drop base new ≡ text = sym (take_all size (drop base new) (omega (arith, short, length-drop base new))) ∙ sym there.same in
    sym (take-append-drop base new) ∙ ap (λ (l : List ℕ). l ++ drop base new) (keeps within).1 ∙ ap (λ (l : List ℕ). take base old ++ l) all

-- a text of a file stays where the bytes up to its end do
front_text : (old new : List ℕ) (base start size : ℕ) (text : List ℕ) → start + size ≤ base → (start + size ≤ length old → KeepsFront (start + size) old new) → IsThere old start size text → IsThere new start size text
front_text old new base start zero text le keeps there = record { whole = there.whole; same = there.same }
front_text old new base start (suc n) text le keeps there =
    let long : start + suc n ≤ length old = reaches old start (suc n) text there (omega arith) in
    let kept : take (start + suc n) new ≡ take (start + suc n) old = (keeps long long).1 in
    record { whole = there.whole; same = there.same ∙ sym (drop-take start (suc n) old) ∙ ap (drop start) (sym kept) ∙ drop-take start (suc n) new }

-- a write from the base on leaves the texts before it, in each file
pub write_leaves_fronts : (old new : DiskState) (called : List ℕ) (base place to : ℕ) → base ≤ place → Shows (At called (Torn (start_of (old.seen called) place) to)) old new
    → (name : List ℕ) (start size : ℕ) (text : List ℕ) → start + size ≤ base → IsThere (old.seen name) start size text → IsThere (new.seen name) start size text
write_leaves_fronts old new called base place to le shows name start size text before there = ⊎_elim here away (same_or_not name called)
  where
    here : name ≡ called → IsThere (new.seen name) start size text
    here is =
        let same : length (old.seen called) ≡ length (old.seen name) = ap (λ (n : List ℕ). length (old.seen n)) (sym is) in
        front_text (old.seen name) (new.seen name) base start size text before
        (λ long. torn_keeps (start + size) (start_of (old.seen called) place) to (old.seen name) (new.seen name) (omega (arith, le, before, long, same)) ((shows.seen name).here is)) there

    away : name ≢ called → IsThere (new.seen name) start size text
    away off = subst (λ (l : List ℕ). IsThere l start size text) (sym ((shows.seen name).elsewhere off)) there

-- and so does a cut behind it
pub cut_leaves_fronts : (old new : DiskState) (called : List ℕ) (base to : ℕ) → base ≤ to → Shows (At called (Shortened to)) old new
    → (name : List ℕ) (start size : ℕ) (text : List ℕ) → start + size ≤ base → IsThere (old.seen name) start size text → IsThere (new.seen name) start size text
cut_leaves_fronts old new called base to le shows name start size text before there = ⊎_elim here away (same_or_not name called)
  where
    here : name ≡ called → IsThere (new.seen name) start size text
    here is = cut_leaves (old.seen name) (new.seen name) start size to text (omega (arith, le, before)) ((shows.seen name).here is) there

    away : name ≢ called → IsThere (new.seen name) start size text
    away off = subst (λ (l : List ℕ). IsThere l start size text) (sym ((shows.seen name).elsewhere off)) there
