-- What logs tell of their files at the end of a call they told at its start.
use Rattle.std.proofs.Common.{◌≡◌, ℕ, Bool, true, false, List, [], Option, Some, None, IsSome, refl}
use Rattle.std.specs.BTreeSet.{BTreeSet}
use Rattle.std.proofs.lemmas.Bool.{false≢true}
use Rattle.lp_model.specs.Outside.{Folder, Grows, OnlyGrow, Told}
use Rattle.lp_model.proofs.Growing.{Kept, there_still}
use Rattle.lp_outside.specs.Matching.{AreMatches}
use Rattle.log_listing.specs.Listed.{Gives, Adds, IsMissing}
use Rattle.run_model.specs.Logs.{generation_name}
use Rattle.generations.specs.There.{AreThere}
use Rattle.generations.specs.Files.{IsLiveAs}

-- a fact of the names of files
pub told_back : (before now : Option Folder) (P : Folder → Type 0) → ((x y : Folder) → Grows x y → P y → P x) → OnlyGrow before now → Told now P → Told before P
told_back None now P keeps grow h = tt
told_back (Some x) None P keeps grow h = absurd grow
told_back (Some x) (Some y) P keeps grow h = keeps x y grow h

was_there : (a b : Option (List ℕ)) → Kept a b → IsSome b → IsSome a
was_there None None grow is = is
was_there None (Some y) grow is = absurd (let e : Some y ≡ None = grow in cc)
was_there (Some x) b grow is = refl

was_gone : (a b : Option (List ℕ)) → Kept a b → b ≡ None → a ≡ None
was_gone None b grow is = refl
was_gone (Some x) None grow is = absurd grow
was_gone (Some x) (Some y) grow is = absurd (cc)

matches_back : (pattern : List ℕ) (names : List (List ℕ)) (x y : Folder) → Grows x y → AreMatches y pattern names → AreMatches x pattern names
matches_back pattern names x y grow m = record {
  ordered = m.ordered;
  each = λ name. (
    (λ here. let both = (m.each name).0 here in (was_there (x name) (y name) (grow name) both.0, both.1)),
    (λ both. (m.each name).1 (there_still (x name) (y name) (grow name) both.0, both.1)),
  );
}

pub gives_back : (before now : Option Folder) (text : List ℕ) (found : List (List ℕ)) → OnlyGrow before now → Gives now text found → Gives before text found
gives_back before now text found grow g = record {
  is_name = g.is_name;
  matches = told_back before now (λ files. AreMatches files text found) (matches_back text found) grow g.matches;
  some = g.some;
}

pub adds_back : (before now : Option Folder) (text : List ℕ) (old new : List (List ℕ)) → OnlyGrow before now → Adds now text old new → Adds before text old new
adds_back before now text old new grow a = record { found = a.found; gives = gives_back before now text a.found grow a.gives; all = a.all }

pub missing_back : (before now : Option Folder) (text name : List ℕ) → OnlyGrow before now → IsMissing now text name → IsMissing before text name
missing_back before now text name grow m = record {
  same = m.same;
  is_name = m.is_name;
  none = told_back before now (λ files. AreMatches files text []) (matches_back text []) grow m.none;
}

pub there_back : (before now : Option Folder) (stem : List ℕ) (numbers : BTreeSet ℕ) → OnlyGrow before now → Told now (λ folder. AreThere folder stem numbers) → Told before (λ folder. AreThere folder stem numbers)
there_back before now stem numbers grow there = told_back before now (λ folder. AreThere folder stem numbers)
    (λ x y grows are number. (
      (λ has. let at = (are number).0 has in (at.0, at.1, was_there (x (generation_name stem number)) (y (generation_name stem number)) (grows (generation_name stem number)) at.2)),
      (λ at. (are number).1 (at.0, at.1, there_still (x (generation_name stem number)) (y (generation_name stem number)) (grows (generation_name stem number)) at.2)),
    )) grow there

live_at : (x y : Folder) (stem : List ℕ) (live : Bool) → Grows x y → IsLiveAs y stem live → IsLiveAs x stem live
live_at x y stem true grow is = was_there (x stem) (y stem) (grow stem) is
live_at x y stem false grow is = was_gone (x stem) (y stem) (grow stem) is

pub live_back : (before now : Option Folder) (stem : List ℕ) (live : Bool) → OnlyGrow before now → Told now (λ folder. IsLiveAs folder stem live) → Told before (λ folder. IsLiveAs folder stem live)
live_back before now stem live grow is = told_back before now (λ folder. IsLiveAs folder stem live) (λ x y grows there. live_at x y stem live grows there) grow is

gone_at : (a b : Option (List ℕ)) → Kept a b → IsSome a → b ≡ None → ⊥
gone_at None b grow is gone = false≢true is
gone_at (Some x) None grow is gone = grow
gone_at (Some x) (Some y) grow is gone = cc

-- a file that was there is gone only where the logs don't tell their files
pub untold : (before now : Option Folder) (name : List ℕ) → OnlyGrow before now → Told before (λ files. IsSome (files name)) → Told now (λ files. files name ≡ None) → before ≡ None
untold None now name grow there gone = refl
untold (Some x) None name grow there gone = absurd grow
untold (Some x) (Some y) name grow there gone = absurd (gone_at (x name) (y name) (grow name) there gone)
