-- A run before its first record.
use Rattle.std.specs.Prelude.{◌≡◌, ℕ, ℤ, List, [], None}
use Rattle.grammar.specs.Trees.{Query}
use Rattle.lp_time.specs.declared.piece.Piece.{Piece}
use Rattle.query_tree.specs.Views.{query_of}
use Rattle.any_format.specs.declared.wanted.Wanted.{Wanted}
use Rattle.row_output.specs.declared.into.Into.{Into}
use Rattle.column_kinds.specs.declared.phase.Gathering.{Gathering}
use Rattle.column_kinds.specs.declared.phase.Phase.{Phase}
use Rattle.column_kinds.specs.declared.phase.Phase.TheVariants as P
use Rattle.column_kinds.specs.declared.phase.Sampled.{Sampled}
use Rattle.sampled_groups.specs.declared.group_maker.GroupMaker.{GroupMaker}

-- a maker is asked this
pub record IsAsked {S : Type 0} (pattern : List Piece) (moment : ℤ) (query : Query) (wanted : Wanted) (into : Into) (maker : GroupMaker S) : Type 0 where
  pub pattern_is : maker.pattern.now ≡ pattern
  pub moment_is : maker.moment.seconds ≡ moment
  pub query_is : query_of maker.query.now ≡ query
  pub wanted_is : maker.wanted ≡ wanted
  pub into_is : maker.into ≡ into

-- no record was kept
pub record GathersNone {S : Type 0} (pattern : List Piece) (moment : ℤ) (query : Query) (wanted : Wanted) (into : Into) (gathering : Gathering (GroupMaker S)) : Type 0 where
  pub first : gathering.first ≡ None
  pub rows : gathering.rows ≡ []
  pub asked : IsAsked pattern moment query wanted into gathering.maker

abbrev pub IsFreshIn : {S T : Type 0} → List Piece → ℤ → Query → Wanted → Into → Phase (GroupMaker S) T → Type 0
IsFreshIn pattern moment q wanted into (P.Gathering gathering) = GathersNone pattern moment q wanted into gathering
IsFreshIn pattern moment q wanted into (P.Taking taker) = ⊥
IsFreshIn pattern moment q wanted into (P.Refused fault) = ⊥
IsFreshIn pattern moment q wanted into P.Lost = ⊥

-- a run that is asked this, before its first record
pub record IsFresh {S T : Type 0} (limit : ℕ) (pattern : List Piece) (moment : ℤ) (query : Query) (wanted : Wanted) (into : Into) (sampled : Sampled (GroupMaker S) T) : Type 0 where
  pub limit_is : sampled.limit ≡ limit
  pub pattern_is : sampled.pattern.now ≡ pattern
  pub phase : IsFreshIn pattern moment query wanted into sampled.phase
