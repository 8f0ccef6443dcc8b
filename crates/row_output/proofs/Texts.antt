-- One text on its way to a file: it begins, takes a row, and ends.
use Rattle.std.proofs.Common.{◌≡◌, ◌<◌, ◌≤◌, ◌+◌, ◌%◌, ◌^◌, ◌==◌, ℕ, Bool, None, Some, List, [], ◌∷◌, ◌++◌, length, refl, sym, ◌∙◌, ap, subst, arith, length-append, append_assoc}
use Rattle.any_format.specs.declared.format.Format.{Format}
use Rattle.any_format.specs.Formats.{text_of, HasText as IsSoFar}
use Rattle.any_format.specs.Wanted.{wanted_text}
use Rattle.command_words.specs.declared.modes.FileMode.{FileMode}
use Rattle.lp_outside.specs.declared.stage.Mark.{Mark}
use Rattle.lp_outside.specs.Stages.{no_mark}
use Rattle.lp_outside.specs.Gained.{HasText}
use Rattle.order_top.specs.Finish.{Row}
use Rattle.text_output.specs.declared.text_output.TextOutput.{TextOutput}
use Rattle.text_output.specs.declared.target.Target.{Target}
use Rattle.text_output.specs.declared.target.Output.{Output}
use Rattle.text_output.specs.Output.{StageKind, GainsText, Spares, reached, placed_at}
use Rattle.text_output.specs.Gaining.{spares_all}
use Rattle.row_output.specs.Asked.{Files}
use Rattle.row_output.specs.Files.{IsBase, IsLeftAlone, IsPut, Opened}
use Rattle.row_output.specs.declared.file_output.FileOutput.{FileOutput}
use Rattle.row_output.specs.declared.file_output.FileOutput.TheVariants as O
use Rattle.row_output.specs.FileTexts.{Making, IsOnItsWay, KeepsStage, TakesRow, EndsFile, SparesFile, text_by}

-- what a text has gained so far
abbrev pub Steps : {F : Type 0} → (F → Bool → List (List ℕ) → List Row → List ℕ → Type 0) → F → F → Row → List ℕ → Type 0
Steps so_far old new row added = (fresh : Bool) (names : List (List ℕ)) (rows : List Row) (text : List ℕ) → so_far old fresh names rows text → so_far new fresh names (rows ++ row ∷ []) (text ++ added)

-- a call that asks keeps a stage as it is where it isn't asked
pub keeps_same : {S : Type 0} (kind : StageKind S) (a : S) → KeepsStage kind a a
keeps_same kind a = record {
  texts = λ tells. record { tells = tells; all = λ output name base mark text is. is };
  lengths = λ tells name bytes. (λ is. is, λ is. is);
  ended = λ name base mark is. is;
}

-- a text before its first row
pub text_opens : {S : Type 0} (kind : StageKind S) (making : Making) (a b : S) (index : ℕ) (name : List ℕ) (base : ℕ) (target : Target) (text : TextOutput Format)
    → ((s : S) → (kind.state s).tells → (output : ℕ) (name : List ℕ) (base : ℕ) → (kind.state s).is_text output name base no_mark [])
    → KeepsStage kind a b → IsBase kind making.mode a name base → target.output ≡ index → target.name ≡ name → target.base ≡ base → target.mark ≡ no_mark → text.target ≡ target → text_of text.shape ≡ (wanted_text making.wanted making.moment).of
    → IsSoFar text.shape (target.base == 0) making.columns [] text.held → IsOnItsWay kind making a b index name [] text
text_opens kind making a b index name base target text empty keeps is_base output named based marked same format so_far =
    let of_base : text.target.base ≡ base = ap (λ (t : Target). t.base) same ∙ based in
    let of_mark : text.target.mark ≡ no_mark = ap (λ (t : Target). t.mark) same ∙ marked in
    record {
      output = ap (λ (t : Target). t.output) same ∙ output;
      called = ap (λ (t : Target). t.name) same ∙ named;
      base = subst (λ (n : ℕ). IsBase kind making.mode a name n) (sym of_base) is_base;
      format = format;
      done = [];
      size = ap (λ (m : Mark). m.length) of_mark;
      stands = λ tells.
          let still = (keeps.texts tells).tells in
          (still, subst (λ (m : Mark). (kind.state b).is_text index name text.target.base m []) (sym of_mark) (empty b still index name text.target.base));
      so_far = subst (λ (n : ℕ). IsSoFar text.shape (n == 0) making.columns [] text.held) (sym (ap (λ (t : Target). t.base) same)) so_far;
    }

mod_twice : (a b : ℕ) → (a % 2 ^ 64 + b) % 2 ^ 64 ≡ (a + b) % 2 ^ 64
mod_twice a b = omega arith

below : (a b : ℕ) → a ≡ b % 2 ^ 64 → a < 2 ^ 64
below a b is = omega (arith, is)

-- the length behind more bytes
length_on : (mark to : ℕ) (done moved : List ℕ) → mark ≡ length done % 2 ^ 64 → to ≡ (mark + length moved) % 2 ^ 64 → to ≡ length (done ++ moved) % 2 ^ 64
length_on mark to done moved was is =
    is ∙ (ap (λ (n : ℕ). (n + length moved) % 2 ^ 64) was ∙ (mod_twice (length done) (length moved) ∙ ap (λ (n : ℕ). n % 2 ^ 64) (sym (length-append done moved))))

-- what stands after some bytes went to the output
stands_on : {S : Type 0} (kind : StageKind S) (a b : S) (index : ℕ) (name : List ℕ) (base : ℕ) (target : Target) (output : ℕ) (another : List ℕ) (place : ℕ) (to : Mark) (done moved : List ℕ)
    → GainsText (reached kind target a) (record { output = output; name = another; base = place; mark = to; stage = b }) moved → target.output ≡ index → target.name ≡ name → target.base ≡ base → target.mark.length ≡ length done % 2 ^ 64
    → HasText index name base target.mark done (kind.state a) → HasText index name base to (done ++ moved) (kind.state b)
stands_on kind a b index name base target output another place to done moved gains numbered named based was stood =
    let gained = gains.gained (below target.mark.length (length done) was) in
    let Was : ℕ → List ℕ → ℕ → Type 0 = λ o n p. (kind.state a).is_text o n p target.mark done in
    let Is : ℕ → List ℕ → ℕ → Type 0 = λ o n p. (kind.state b).is_text o n p to (done ++ moved) in
    let own : Was target.output target.name target.base =
    subst (λ (o : ℕ). Was o target.name target.base) (sym numbered) (subst (λ (n : List ℕ). Was index n target.base) (sym named) (subst (λ (p : ℕ). Was index name p) (sym based) stood.1)) in
    let now : Is target.output target.name target.base = gained.staged stood.0 done own in
    (gained.tells stood.0, subst (λ (o : ℕ). Is o name base) numbered (subst (λ (n : List ℕ). Is target.output n base) named (subst (λ (p : ℕ). Is target.output target.name p) based now)))

-- it takes a row
pub text_takes : {S : Type 0} (kind : StageKind S) (making : Making) (start a b : S) (index : ℕ) (name : List ℕ) (rows : List Row) (row : Row) (old new : TextOutput Format) (added moved : List ℕ)
    → old.held ++ added ≡ moved ++ new.held → GainsText (reached kind old.target a) (reached kind new.target b) moved → Steps IsSoFar old.shape new.shape row added → text_of new.shape ≡ text_of old.shape
    → new.target.output ≡ old.target.output → new.target.name ≡ old.target.name → new.target.base ≡ old.target.base → IsOnItsWay kind making start a index name rows old → IsOnItsWay kind making start b index name (rows ++ row ∷ []) new
text_takes kind making start a b index name rows row old new added moved parts gains steps format output named based is =
    let gained = gains.gained (below old.target.mark.length (length is.done) is.size) in
    let same : (is.done ++ old.held) ++ added ≡ (is.done ++ moved) ++ new.held =
    append_assoc is.done old.held added ∙ (ap (λ (t : List ℕ). is.done ++ t) parts ∙ sym (append_assoc is.done moved new.held)) in
    let More : List ℕ → Type 0 = λ t. IsSoFar new.shape (old.target.base == 0) making.columns (rows ++ row ∷ []) t in
    let so_far : More ((is.done ++ moved) ++ new.held) = subst More same (steps (old.target.base == 0) making.columns rows (is.done ++ old.held) is.so_far) in
    record {
      output = output ∙ is.output;
      called = named ∙ is.called;
      base = subst (λ (n : ℕ). IsBase kind making.mode start name n) (sym based) is.base;
      format = format ∙ is.format;
      done = is.done ++ moved;
      size = length_on old.target.mark.length new.target.mark.length is.done moved is.size gained.length_is;
      stands = λ tells.
          subst (λ (n : ℕ). HasText index name n new.target.mark (is.done ++ moved) (kind.state b)) (sym based)
          (stands_on kind a b index name old.target.base old.target new.target.output new.target.name new.target.base new.target.mark is.done moved gains is.output is.called refl is.size (is.stands tells));
      so_far = subst (λ (n : ℕ). IsSoFar new.shape (n == 0) making.columns (rows ++ row ∷ []) ((is.done ++ moved) ++ new.held)) (sym based) so_far;
    }

-- it ends
pub text_ends : {S : Type 0} (kind : StageKind S) (files : Files) (making : Making) (start a b : S) (index : ℕ) (name : List ℕ) (rows : List Row) (text : TextOutput Format) (output : Output) (added : List ℕ) → files.mode ≡ making.mode
    → GainsText (reached kind text.target a) (placed_at kind text.target.output output b) (text.held ++ added)
    → ((fresh : Bool) (names : List (List ℕ)) (rows : List Row) (so_far : List ℕ) → IsSoFar text.shape fresh names rows so_far → text_of text.shape fresh names rows ≡ so_far ++ added)
    → kind.ended b output.name output.base output.mark → output.name ≡ text.target.name → output.base ≡ text.target.base
    → IsOnItsWay kind making start a index name rows text → IsPut kind files (text_by making) index start b (record { name = name; rows = rows }) output
text_ends kind files making start a b index name rows text output added mode gains last ended named based is =
    let last_bytes : List ℕ = text.held ++ added in
    let gained = gains.gained (below text.target.mark.length (length is.done) is.size) in
    let whole : text_by making (output.base == 0) rows ≡ is.done ++ (text.held ++ added) =
    ap (λ (n : ℕ). (wanted_text making.wanted making.moment).of (n == 0) making.columns rows) based
    ∙ (ap (λ t. t (text.target.base == 0) making.columns rows) (sym is.format)
    ∙ (last (text.target.base == 0) making.columns rows (is.done ++ text.held) is.so_far ∙ append_assoc is.done text.held added)) in
    let Stands : List ℕ → Type 0 = λ t. HasText index name output.base output.mark t (kind.state b) in
    record {
      name = named ∙ is.called;
      base = subst (λ (m : FileMode). IsBase kind m start name output.base) (sym mode) (subst (λ (n : ℕ). IsBase kind making.mode start name n) (sym based) is.base);
      stands = λ tells. subst Stands (sym whole)
          (subst (λ (n : ℕ). HasText index name n output.mark (is.done ++ (text.held ++ added)) (kind.state b)) (sym based)
          (stands_on kind a b index name text.target.base text.target text.target.output output.name output.base output.mark is.done (text.held ++ added) gains is.output is.called refl is.size (is.stands tells)));
      size = length_on text.target.mark.length output.mark.length is.done (text.held ++ added) is.size gained.length_is ∙ ap (λ (t : List ℕ). length t % 2 ^ 64) (sym whole);
      ended = subst (λ (n : List ℕ). kind.ended b n output.base output.mark) (named ∙ is.called) ended;
    }

-- where there is no call
pub unasked : {S : Type 0} (kind : StageKind S) (file : FileOutput) (a : S) → SparesFile kind file a a
unasked kind O.LeftAlone a = refl
unasked kind (O.Text text) a = spares_all kind text.target.output text.target.name text.target.base a

pub left_takes : {S : Type 0} (kind : StageKind S) (row : Row) (file : FileOutput) (a : S) → file ≡ O.LeftAlone → TakesRow kind row file file a a
left_takes kind row file a is = subst (λ (f : FileOutput). TakesRow kind row f f a a) (sym is) (record {
  takes = λ making start index name rows left. left;
  opened = refl;
  tells = λ tells. tells;
  spares = refl;
})

pub left_ends : {S : Type 0} (kind : StageKind S) (file : FileOutput) (a : S) → file ≡ O.LeftAlone → EndsFile kind file None a a
left_ends kind file a is = subst (λ (f : FileOutput). EndsFile kind f None a a) (sym is) (record {
  ends = λ files making start index name rows mode left. subst (λ (m : FileMode). IsLeftAlone kind m start name) (sym mode) left;
  opened = refl;
  tells = λ tells. tells;
  spares = refl;
})

abbrev opened_as : List ℕ → ℕ → List Opened
opened_as name base = record { name = name; base = base } ∷ []

same_opened : (name other : List ℕ) (base place : ℕ) → name ≡ other → base ≡ place → opened_as name base ≡ opened_as other place
same_opened name other base place named based = ap (λ (n : List ℕ). opened_as n base) named ∙ ap (opened_as other) based

pub spares_text : {S : Type 0} (kind : StageKind S) (file : FileOutput) (text : TextOutput Format) (a b : S) → file ≡ O.Text text → Spares kind text.target.output text.target.name text.target.base a b → SparesFile kind file a b
spares_text kind file text a b is spares = subst (λ (f : FileOutput). SparesFile kind f a b) (sym is) spares

-- what a text says of a row
abbrev pub TextStep : {S : Type 0} → StageKind S → Row → TextOutput Format → TextOutput Format → S → S → Type 0
TextStep kind row old new a b = (added moved : List ℕ) × (old.held ++ added ≡ moved ++ new.held) × GainsText (reached kind old.target a) (reached kind new.target b) moved × Steps IsSoFar old.shape new.shape row added

pub takes_text : {S : Type 0} (kind : StageKind S) (row : Row) (file : FileOutput) (old new : TextOutput Format) (a b : S) → file ≡ O.Text old → text_of new.shape ≡ text_of old.shape
    → (new.target.output ≡ old.target.output) × (new.target.name ≡ old.target.name) × (new.target.base ≡ old.target.base) → Spares kind old.target.output old.target.name old.target.base a b → TextStep kind row old new a b → TakesRow kind row file (O.Text new) a b
takes_text kind row file old new a b is format same spares step = subst (λ (f : FileOutput). TakesRow kind row f (O.Text new) a b) (sym is) (record {
  takes = λ making start index name rows on. text_takes kind making start a b index name rows row old new step.0 step.1 step.2 step.3 step.4 format same.0 same.1 same.2 on;
  opened = same_opened new.target.name old.target.name new.target.base old.target.base same.1 same.2;
  tells = step.3.tells;
  spares = spares;
})

-- and of its end
abbrev pub TextEnd : {S : Type 0} → StageKind S → TextOutput Format → Output → S → S → Type 0
TextEnd kind text output a b = (added : List ℕ) × GainsText (reached kind text.target a) (placed_at kind text.target.output output b) (text.held ++ added)
    × ((fresh : Bool) (names : List (List ℕ)) (rows : List Row) (so_far : List ℕ) → IsSoFar text.shape fresh names rows so_far → text_of text.shape fresh names rows ≡ so_far ++ added)

pub ends_text : {S : Type 0} (kind : StageKind S) (file : FileOutput) (text : TextOutput Format) (output : Output) (a b : S) → file ≡ O.Text text → TextEnd kind text output a b → kind.ended b output.name output.base output.mark
    → (output.name ≡ text.target.name) × (output.base ≡ text.target.base) → Spares kind text.target.output text.target.name text.target.base a b → EndsFile kind file (Some output) a b
ends_text kind file text output a b is last ended same spares = subst (λ (f : FileOutput). EndsFile kind f (Some output) a b) (sym is) (record {
  ends = λ files making start index name rows mode on. text_ends kind files making start a b index name rows text output last.0 mode last.1 last.2 ended same.0 same.1 on;
  opened = same_opened output.name text.target.name output.base text.target.base same.0 same.1;
  tells = last.1.tells;
  spares = spares;
})
