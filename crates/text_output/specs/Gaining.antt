-- What outputs gain, one text after the other.
use Rattle.std.specs.Prelude.{◌≡◌, ℕ, ◌<◌, ◌^◌, List, [], ◌++◌, refl}
use Rattle.std.proofs.Common.{◌∙◌, sym, subst, arith}
use Rattle.lp_outside.specs.Gained.{Gained, GainedSome}
use Rattle.lp_outside.proofs.Gains.{gained_nothing, gained_on, gained_fits, gained_some_all, gained_some_none, gained_then_some, gained_some_front}
use Rattle.text_output.specs.Output.{StageKind, OutputAt, GainsText, GainsFront, Spares}

pub gains_nothing : {S : Type 0} {kind : StageKind S} (a : OutputAt kind) → GainsText a a []
gains_nothing {kind = kind} a = record {
  output = refl;
  name = refl;
  base = refl;
  tells = λ tells. tells;
  gained = λ fits. gained_nothing (kind.state a.stage) a.output a.name a.base a.mark fits;
  others = λ tells output name base mark text other another is. is;
  lengths = λ tells name bytes off. (λ is. is, λ is. is);
  ended = λ name base mark off is. is;
}

pub gains_trans : {S : Type 0} {kind : StageKind S} (a b c : OutputAt kind) (x y : List ℕ) → GainsText a b x → GainsText b c y → GainsText a c (x ++ y)
gains_trans {kind = kind} a b c x y f s = record {
  output = s.output ∙ f.output;
  name = s.name ∙ f.name;
  base = s.base ∙ f.base;
  tells = λ tells. s.tells (f.tells tells);
  gained = λ fits.
      let first = f.gained fits in
      let Of : ℕ → List ℕ → ℕ → Type 0 = λ output name base. Gained output name base b.mark c.mark y (kind.state b.stage) (kind.state c.stage) in
      let second = subst (λ (output : ℕ). Of output a.name a.base) f.output (subst (λ (name : List ℕ). Of b.output name a.base) f.name (subst (λ (base : ℕ). Of b.output b.name base) f.base
      (s.gained (gained_fits (kind.state a.stage) (kind.state b.stage) a.output a.name a.base a.mark b.mark x first)))) in
      gained_on (kind.state a.stage) (kind.state b.stage) (kind.state c.stage) a.output a.name a.base a.mark b.mark c.mark x y first second;
  others = λ tells output name base mark text other another is.
      s.others (f.tells tells) output name base mark text (λ same. other (same ∙ f.output)) (λ same. another (same ∙ f.name)) (f.others tells output name base mark text other another is);
  lengths = λ tells name bytes off.
      let first = f.lengths tells name bytes off in
      let second = s.lengths (f.tells tells) name bytes (λ same. off (same ∙ f.name)) in
      (λ is. second.0 (first.0 is), λ is. first.1 (second.1 is));
  ended = λ name base mark off is. s.ended name base mark (λ same. off (same ∙ f.name)) (f.ended name base mark off is);
}

-- all that is gained is some of it
pub front_all : {S : Type 0} {kind : StageKind S} (a b : OutputAt kind) (x more : List ℕ) → GainsText a b x → GainsFront a b.stage (x ++ more)
front_all {kind = kind} a b x more gains = λ fits. gained_some_all (kind.state a.stage) (kind.state b.stage) a.output a.name a.base a.mark b.mark x more (gains.gained fits)

-- nothing was gained of a text
pub front_none : {S : Type 0} {kind : StageKind S} (a : OutputAt kind) (text : List ℕ) → GainsFront a a.stage text
front_none {kind = kind} a text = λ fits. gained_some_none (kind.state a.stage) a.name text

-- one text whole, and some of the next
pub front_later : {S : Type 0} {kind : StageKind S} (a b : OutputAt kind) (c : S) (x y : List ℕ) → GainsText a b x → GainsFront b c y → GainsFront a c (x ++ y)
front_later {kind = kind} a b c x y f s = λ fits.
    let first = f.gained fits in
    let low = gained_fits (kind.state a.stage) (kind.state b.stage) a.output a.name a.base a.mark b.mark x first in
    gained_then_some (kind.state a.stage) (kind.state b.stage) (kind.state c) a.output a.name a.base a.mark b.mark x y first
    (subst (λ (name : List ℕ). GainedSome name y (kind.state b.stage) (kind.state c)) f.name (s low))

-- some of a text is some of one that it begins
pub front_front : {S : Type 0} {kind : StageKind S} (a : OutputAt kind) (b : S) (x y : List ℕ) → GainsFront a b x → GainsFront a b (x ++ y)
front_front {kind = kind} a b x y some = λ fits. gained_some_front (kind.state a.stage) (kind.state b) a.name x y (some fits)

-- the same output, under the index that it had
pub gains_as : {S : Type 0} {kind : StageKind S} (a b : OutputAt kind) (text : List ℕ) → GainsText a b text → GainsText a (record { output = a.output; name = b.name; base = b.base; mark = b.mark; stage = b.stage }) text
gains_as a b text gains = record {
  output = refl;
  name = gains.name;
  base = gains.base;
  tells = gains.tells;
  gained = gains.gained;
  others = gains.others;
  lengths = gains.lengths;
  ended = gains.ended;
}

-- no call spares all
pub spares_all : {S : Type 0} (kind : StageKind S) (output : ℕ) (name : List ℕ) (base : ℕ) (a : S) → Spares kind output name base a a
spares_all kind output name base a = record {
  others = λ tells other called start mark text off another is. is;
  fronts = λ tells other called start mark text before is. is;
  lengths = λ tells called bytes off. (λ is. is, λ is. is);
  ended = λ called start mark off is. is;
}

-- what some calls spare, and later ones, all of them spare
pub spares_on : {S : Type 0} (kind : StageKind S) (output : ℕ) (name : List ℕ) (base : ℕ) (a b c : S) → ((kind.state a).tells → (kind.state b).tells) → Spares kind output name base a b → Spares kind output name base b c → Spares kind output name base a c
spares_on kind output name base a b c still f s = record {
  others = λ tells other called start mark text off another is. s.others (still tells) other called start mark text off another (f.others tells other called start mark text off another is);
  fronts = λ tells other called start mark text before is. s.fronts (still tells) other called start mark text before (f.fronts tells other called start mark text before is);
  lengths = λ tells called bytes off.
      let first = f.lengths tells called bytes off in
      let second = s.lengths (still tells) called bytes off in
      (λ is. second.0 (first.0 is), λ is. first.1 (second.1 is));
  ended = λ called start mark off is. s.ended called start mark off (f.ended called start mark off is);
}
