-- Frames behind frames, of 4,096 bytes each but the last.
use Rattle.std.proofs.Common.{◌≡◌, ◌⊎◌, inl, inr, ℕ, ◌-◌, ◌≤◌, ◌<◌, min, List, [], ◌∷◌, ◌++◌, length, flat_map, refl, sym, ◌∙◌, ap, subst, arith, append_assoc}
use Rattle.std.specs.List.{AllByRecursion}
use Rattle.std.proofs.lemmas.List.{append-nil}
use Rattle.std.proofs.lemmas.Grind.{flat_map-append}
use Rattle.recovery_model.specs.Stage.{Frame}
use Rattle.commit.specs.Putting.{frame_bytes, GainsFrames, HasGained}

pub gained_none : (output left : ℕ) (old : List ℕ) → HasGained output [] left old old
gained_none output left old = record {
  gains = record {
    frames = [];
    cuts = record { full = []; last = []; split = refl; each_full = tt; fewer = tt; one = omega arith; bytes_are = refl };
    stage_is = sym (append-nil old);
  };
  even = λ some. refl;
}

all_more : (frames : List Frame) (f : Frame) → AllByRecursion (λ (f : Frame). length f.bytes ≡ 4096) frames → length f.bytes ≡ 4096 → AllByRecursion (λ (f : Frame). length f.bytes ≡ 4096) (frames ++ f ∷ [])
all_more [] f all is = (is, tt)
all_more (x ∷ xs) f all is = (all.0, all_more xs f all.1 is)

full_or_not : (n : ℕ) → n ≤ 4096 → (n ≡ 4096) ⊎ (n < 4096)
full_or_not n most = grind arith

pub gained_more : (output : ℕ) (bytes : List ℕ) (left : ℕ) (old mid new : List ℕ) (f : Frame) → length f.bytes ≡ min left 4096 → 0 < length f.bytes → HasGained output bytes left old mid → new ≡ mid ++ frame_bytes output f
    → HasGained output (bytes ++ f.bytes) (left - length f.bytes) old new
gained_more output bytes left old mid new f size some so_far wrote =
    let g = so_far.gains in
    let none : g.cuts.last ≡ [] = so_far.even (omega (arith, size, some)) in
    let frames_are : g.frames ≡ g.cuts.full = g.cuts.split ∙ ap (λ (l : List Frame). g.cuts.full ++ l) none ∙ append-nil g.cuts.full in
    let bytes_are : flat_map (λ (f : Frame). f.bytes) (g.frames ++ f ∷ []) ≡ bytes ++ f.bytes =
    flat_map-append (λ (f : Frame). f.bytes) g.frames (f ∷ []) ∙ (λ i. g.cuts.bytes_are i ++ append-nil f.bytes i) in
    let stage_is : new ≡ old ++ flat_map (frame_bytes output) (g.frames ++ f ∷ []) =
    wrote ∙ ap (λ (l : List ℕ). l ++ frame_bytes output f) g.stage_is ∙ append_assoc old (flat_map (frame_bytes output) g.frames) (frame_bytes output f)
    ∙ ap (λ (l : List ℕ). old ++ l) (sym (flat_map-append (frame_bytes output) g.frames (f ∷ []) ∙ ap (λ (l : List ℕ). flat_map (frame_bytes output) g.frames ++ l) (append-nil (frame_bytes output f)))) in
    elim (full_or_not (length f.bytes) (omega (arith, size))) [
      | inl is ↦ record {
        gains = record {
          frames = g.frames ++ f ∷ [];
          cuts = record {
            full = g.cuts.full ++ f ∷ [];
            last = [];
            split = ap (λ (l : List Frame). l ++ f ∷ []) frames_are ∙ sym (append-nil (g.cuts.full ++ f ∷ []));
            each_full = all_more g.cuts.full f g.cuts.each_full is;
            fewer = tt;
            one = omega arith;
            bytes_are = bytes_are;
          };
          stage_is = stage_is;
        };
        even = λ more. refl;
      }
      | inr fewer ↦ record {
        gains = record {
          frames = g.frames ++ f ∷ [];
          cuts = record {
            full = g.cuts.full;
            last = f ∷ [];
            split = ap (λ (l : List Frame). l ++ f ∷ []) frames_are;
            each_full = g.cuts.each_full;
            fewer = ((some, fewer), tt);
            one = omega arith;
            bytes_are = bytes_are;
          };
          stage_is = stage_is;
        };
        even = λ more. absurd (omega (arith, size, fewer, more));
      }
    ]

pub gained_is : (output : ℕ) (bytes others : List ℕ) (left now : ℕ) (old new : List ℕ) → bytes ≡ others → now ≡ left → HasGained output bytes left old new → HasGained output others now old new
gained_is output bytes others left now old new same is gained = subst (λ (n : ℕ). HasGained output others n old new) (sym is) (subst (λ (b : List ℕ). HasGained output b left old new) same gained)

pub gained_all : (output : ℕ) (bytes others : List ℕ) (left : ℕ) (old new : List ℕ) → bytes ≡ others → HasGained output bytes left old new → GainsFrames output others old new
gained_all output bytes others left old new same gained = subst (λ (b : List ℕ). GainsFrames output b old new) same gained.gains
