-- What holds of a run before its first record.
use Rattle.std.proofs.Common.{◌≡◌, ℕ, ℤ, List, length, map, ap, ap₂, sym, ◌∙◌, subst, refl}
use Rattle.grammar.specs.Trees.{Query}
use Rattle.lp_time.specs.declared.piece.Piece.{Piece}
use Rattle.any_format.specs.Wanted.{wanted_text}
use Rattle.any_format.specs.declared.wanted.Wanted.{Wanted}
use Rattle.text_output.specs.Output.{StageKind}
use Rattle.row_output.specs.Sinks.{files_for}
use Rattle.row_output.specs.declared.into.Into.{Into}
use Rattle.column_kinds.proofs.UpTo.{none_enough}
use Rattle.column_kinds.specs.Kept.{found_in}
pub use Rattle.column_kinds.specs.Past.{nothing}
use Rattle.column_kinds.specs.Sampling.{Holds, PhaseHolds}
use Rattle.column_kinds.specs.Phases.{taken_in}
use Rattle.column_kinds.specs.Sampling.{Rules as SampleRules}
use Rattle.column_kinds.specs.declared.phase.Phase.{Phase}
use Rattle.column_kinds.specs.declared.phase.Phase.TheVariants as P
use Rattle.column_kinds.specs.declared.phase.Sampled.{Sampled}
use Rattle.sampled_groups.specs.declared.group_maker.GroupMaker.{GroupMaker}
use Rattle.sampled_groups.specs.declared.group_taker.GroupTaker.{GroupTaker}
use Rattle.sampled_groups.specs.Fresh.{IsFresh, IsFreshIn}
use Rattle.sampled_run.specs.Finishes.{asked_by}
use Rattle.sampled_groups.specs.Kinds.{Fits, group_kind, run_rules}
use Rattle.sampled_groups.specs.Rules.{GroupRules, group_rules_of}

pub taken_none : {S T : Type 0} (count : T → ℕ) (pattern : List Piece) (moment : ℤ) (query : Query) (wanted : Wanted) (into : Into) (phase : Phase (GroupMaker S) T) → IsFreshIn pattern moment query wanted into phase → taken_in count phase ≡ 0
taken_none count pattern moment q wanted into (P.Gathering gathering) none = ap length none.rows
taken_none count pattern moment q wanted into (P.Taking taker) none = absurd none
taken_none count pattern moment q wanted into (P.Refused fault) none = absurd none
taken_none count pattern moment q wanted into P.Lost none = absurd none

-- the rules of a run, its sample's and its own
pub record Begins {S : Type 0} (kind : StageKind S) (asked : GroupRules) (sampled : Sampled (GroupMaker S) GroupTaker) (now : S) : Type 0 where
  pub rules : SampleRules (GroupMaker S)
  pub fits : Fits rules
  pub same : run_rules rules ≡ asked
  pub holds : Holds (group_kind kind) rules now nothing sampled now

abbrev asked_rules : ℕ → List Piece → ℤ → Query → Wanted → Into → GroupRules
asked_rules limit pattern moment q wanted into = group_rules_of limit pattern moment q (asked_by (files_for into) (wanted_text wanted moment) q)

fresh_in : {S : Type 0} (kind : StageKind S) (limit : ℕ) (pattern : List Piece) (moment : ℤ) (query : Query) (wanted : Wanted) (into : Into) (sampled : Sampled (GroupMaker S) GroupTaker) (phase : Phase (GroupMaker S) GroupTaker) (now : S)
    → sampled.limit ≡ limit → sampled.pattern.now ≡ pattern → sampled.phase ≡ phase → IsFreshIn pattern moment query wanted into phase → Begins kind (asked_rules limit pattern moment query wanted into) sampled now
fresh_in {S = S} kind limit pattern moment q wanted into sampled (P.Gathering gathering) now limit_is pattern_is phase_is none =
    let asked = none.asked in
    let rules : SampleRules (GroupMaker S) = record { limit = limit; pattern = pattern; maker = gathering.maker } in
    let Of : Phase (GroupMaker S) GroupTaker → Type 0 = λ p. PhaseHolds (group_kind kind) rules now nothing p now in
    record {
      rules = rules;
      fits = asked.pattern_is;
      same = ap₂ (λ moment query. asked_rules limit pattern moment query gathering.maker.wanted gathering.maker.into) asked.moment_is asked.query_is ∙ ap₂ (λ w i. asked_rules limit pattern moment q w i) asked.wanted_is asked.into_is;
      holds = record {
        asks = record { limit_is = limit_is; pattern_is = pattern_is };
        phase = subst Of (sym phase_is) (record { kept = record { maker = refl; first = none.first; rows = ap (map found_in) none.rows; nothing = refl }; waiting = none_enough limit });
      };
    }
fresh_in kind limit pattern moment q wanted into sampled (P.Taking taker) now limit_is pattern_is phase_is none = absurd none
fresh_in kind limit pattern moment q wanted into sampled (P.Refused fault) now limit_is pattern_is phase_is none = absurd none
fresh_in kind limit pattern moment q wanted into sampled P.Lost now limit_is pattern_is phase_is none = absurd none

-- a run before its first record
pub fresh_begins : {S : Type 0} (kind : StageKind S) (limit : ℕ) (pattern : List Piece) (moment : ℤ) (query : Query) (wanted : Wanted) (into : Into) (sampled : Sampled (GroupMaker S) GroupTaker) (now : S)
    → IsFresh limit pattern moment query wanted into sampled → Begins kind (asked_rules limit pattern moment query wanted into) sampled now
fresh_begins kind limit pattern moment q wanted into sampled now is =
    fresh_in kind limit pattern moment q wanted into sampled sampled.phase now is.limit_is is.pattern_is refl is.phase
