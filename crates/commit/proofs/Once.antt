-- A stage fits or breaks at one place.
use Rattle.std.proofs.Common.{◌≡◌, ◌⊎◌, inl, inr, ⊎_elim, ℕ, ◌<◌, List, [], ◌∷◌, sym, ◌∙◌, subst, arith}
use Rattle.ledger_model.specs.Entries.{Output}
use Rattle.recovery_model.specs.Stage.{Frame, HasNoFrame, Leads, BreaksStage}
use Rattle.recovery_model.proofs.OneState.{one_frame}
use Rattle.commit.specs.Outputs.{AllStaged, BreaksOutputs}
use Rattle.commit.proofs.Restoring.{one_output}
use Rattle.commit.proofs.Leading.{staged_apart}

one_end : (stage : List ℕ) (index : ℕ) (fs gs : List Frame) (last size p e q h : ℕ) → Leads stage index fs last size p e → HasNoFrame stage index p e → Leads stage index gs last size q h → HasNoFrame stage index q h → p ≡ q
one_end stage index [] [] last size p e q h a none b other = sym a.0 ∙ b.0
one_end stage index [] (g ∷ gs) last size p e q h a none b other = absurd (none g b.2 (sym b.0 ∙ a.0) (sym a.1 ∙ b.1))
one_end stage index (f ∷ fs) [] last size p e q h a none b other = absurd (other f a.2 (sym a.0 ∙ b.0) (sym b.1 ∙ a.1))
one_end stage index (f ∷ fs) (g ∷ gs) last size p e q h a none b other =
    let same = one_frame stage index f g a.2 b.2 (sym a.0 ∙ b.0) in
    let rest : Leads stage index fs g.prev g.offset p e = subst (λ (n : ℕ). Leads stage index fs n g.offset p e) same.0 (subst (λ (o : ℕ). Leads stage index fs f.prev o p e) same.1 a.3) in
    one_end stage index fs gs g.prev g.offset p e q h rest none b.3 other

pub one_break : (stage : List ℕ) (index : ℕ) (output : Output) (p q : ℕ) → BreaksStage stage index output p → BreaksStage stage index output q → p ≡ q
one_break stage index output p q a b = one_end stage index a.frames b.frames output.last output.size p a.end q b.end a.leads a.none b.leads b.none

pub never_both : (stage : List ℕ) (outputs : List Output) (place : ℕ) → AllStaged stage outputs → BreaksOutputs stage outputs place → ⊥
never_both stage outputs place all breaks = let s = all breaks.index breaks.output breaks.is in staged_apart stage breaks.index breaks.output s.0 place s.1 breaks.breaks

pub one_place : (stage : List ℕ) (outputs : List Output) (p q : ℕ) → BreaksOutputs stage outputs p → BreaksOutputs stage outputs q → p ≡ q
one_place stage outputs p q a b = elim (order a.index b.index) [
  | inl sides ↦ absurd (⊎_elim
      (λ less. let s = b.earlier a.index a.output less a.is in staged_apart stage a.index a.output s.0 p s.1 a.breaks)
      (λ more. let s = a.earlier b.index b.output more b.is in staged_apart stage b.index b.output s.0 q s.1 b.breaks) sides)
  | inr same ↦
      let one : a.output ≡ b.output = one_output outputs a.index b.index a.output b.output a.is b.is same in
      one_break stage b.index b.output p q (subst (λ (o : Output). BreaksStage stage b.index o p) one (subst (λ (n : ℕ). BreaksStage stage n a.output p) same a.breaks)) b.breaks
]
  where
    order : (i j : ℕ) → ((i < j) ⊎ (j < i)) ⊎ (i ≡ j)
    order i j = grind arith
