-- The two faults of tokens: each has one place, they exclude each other, and a query has neither.
use Rattle.std.proofs.Common.{◌≡◌, ℕ, ◌+◌, ◌≤◌, ◌<◌, List, [], ◌∷◌, ◌++◌, length, refl, sym, ◌∙◌, ap, subst, arith, append_assoc, append-nil, length-append}
use Rattle.grammar.specs.Trees as model
use Rattle.grammar.specs.Trees.{Token}
use Rattle.grammar.specs.Forms.{Kind as k}
use Rattle.grammar.specs.Rules.{query}
use Rattle.grammar.specs.Derivations.{Derivation, tokens, depth_to}
use Rattle.grammar.specs.Whole.{Derives, NoneNext}
use Rattle.grammar.proofs.Agreeing.{same_first}
use Rattle.query_parser.specs.Parsed.{levels, place_in, SyntaxAt, TooDeepAt}
use Rattle.query_laws.specs.Fronts.{BeginsWith}
use Rattle.query_laws.proofs.Meeting.{Meeting, alike, longer, shorter, meet}
use Rattle.query_laws.proofs.Depths.{depth_told}
use Rattle.query_laws.proofs.Growing.{depth_grows}

pub one_depth : (front : List Token) (d e : Derivation k.query query) → BeginsWith d front → BeginsWith e front → depth_to (length front) d ≡ depth_to (length front) e
one_depth front d e one two = depth_told d e front [] [] refl tt tt (one.0, append-nil (tokens d) ∙ one.1) (two.0, append-nil (tokens e) ∙ two.1)

-- what begins with a whole begins with a part of it and the token behind
next_of : (text whole front others : List Token) (t : Token) (rest : List Token) → whole ≡ front ++ t ∷ rest → text ≡ whole ++ others → text ≡ (front ++ (t ∷ [])) ++ (rest ++ others)
next_of text whole front others t rest is so = so ∙ ap (λ (l : List Token). l ++ others) is ∙ append_assoc front (t ∷ rest) others ∙ sym (append_assoc front (t ∷ []) (rest ++ others))

never_next : (whole front rest : List Token) (t : Token) (behind others : List Token) (d : Derivation k.query query) → whole ≡ front ++ t ∷ behind → rest ≡ t ∷ others → BeginsWith d whole → NoneNext query front rest → ⊥
never_next whole front rest t behind others d is so begins never =
    let at : NoneNext query front (t ∷ others) = subst (λ (l : List Token). NoneNext query front l) so never in
    at (d, behind ++ begins.0, next_of (tokens d) whole front begins.0 t behind is begins.1)

-- with no level too many in the whole there is none in a part of it
never_deeper : (whole front : List Token) (t : Token) (behind : List Token) (d e : Derivation k.query query) → whole ≡ front ++ t ∷ behind → BeginsWith d whole → depth_to (length whole) d ≤ levels
    → BeginsWith e (front ++ (t ∷ [])) → levels < depth_to (length front + 1) e → ⊥
never_deeper whole front t behind d e is begins within other deeper =
    let next : List Token = front ++ (t ∷ []) in
    let size : length next ≡ length front + 1 = length-append front (t ∷ []) in
    let all : length whole ≡ length front + length (t ∷ behind) = ap (λ (l : List Token). length l) is ∙ length-append front (t ∷ behind) in
    let same : depth_to (length next) d ≡ depth_to (length next) e = one_depth next d e (behind ++ begins.0, next_of (tokens d) whole front begins.0 t behind is begins.1) other in
    let grows : depth_to (length next) d ≤ depth_to (length whole) d = depth_grows d (length next) (length whole) (omega arith) in
    let at : levels < depth_to (length next) e = subst (λ (m : ℕ). levels < depth_to m e) (sym size) deeper in
    omega arith

with_token : (all : List Token) (at : ℕ) (one : TooDeepAt all at) → BeginsWith one.way (one.front ++ (one.token ∷ []))
with_token all at one = (one.more, one.begins_so ∙ sym (append_assoc one.front (one.token ∷ []) one.more))

-- the front of the one may not go on behind the front of a level too many
deep_before : (all whole : List Token) (at : ℕ) (one : TooDeepAt all at) (d : Derivation k.query query) (t : Token) (behind others : List Token) → whole ≡ one.front ++ t ∷ behind → one.token ∷ one.rest ≡ t ∷ others
    → BeginsWith d whole → depth_to (length whole) d ≤ levels → ⊥
deep_before all whole at one d t behind others is so begins within =
    let same : t ≡ one.token = sym (same_first one.token t one.rest others so) in
    never_deeper whole one.front one.token behind d one.way (is ∙ ap (λ (x : Token). one.front ++ x ∷ behind) same) begins within (with_token all at one) one.deeper

syntax_by : (all : List Token) (size a b : ℕ) (one : SyntaxAt all size a) (two : SyntaxAt all size b) → Meeting one.front one.rest two.front two.rest → a ≡ b
syntax_by all size a b one two (alike fronts rests) = one.place ∙ ap (λ (l : List Token). place_in l size) rests ∙ sym two.place
syntax_by all size a b one two (longer t behind is so) =
    absurd (never_next one.front two.front two.rest t behind (behind ++ one.rest) one.begun.way is so (one.begun.more, one.begun.begins_so) two.none_next)
syntax_by all size a b one two (shorter t behind is so) =
    absurd (never_next two.front one.front one.rest t behind (behind ++ two.rest) two.begun.way is so (two.begun.more, two.begun.begins_so) one.none_next)

pub one_syntax : (all : List Token) (size a b : ℕ) → SyntaxAt all size a → SyntaxAt all size b → a ≡ b
one_syntax all size a b one two = syntax_by all size a b one two (meet one.front one.rest two.front two.rest (sym one.split ∙ two.split))

deep_by : (all : List Token) (a b : ℕ) (one : TooDeepAt all a) (two : TooDeepAt all b) → Meeting one.front (one.token ∷ one.rest) two.front (two.token ∷ two.rest) → a ≡ b
deep_by all a b one two (alike fronts rests) = one.place ∙ ap (λ (t : Token). t.at) (same_first one.token two.token one.rest two.rest rests) ∙ sym two.place
deep_by all a b one two (longer t behind is so) =
    absurd (deep_before all one.front b two one.way t behind (behind ++ (one.token ∷ one.rest)) is so (one.token ∷ one.more, one.begins_so) one.within)
deep_by all a b one two (shorter t behind is so) =
    absurd (deep_before all two.front a one two.way t behind (behind ++ (two.token ∷ two.rest)) is so (two.token ∷ two.more, two.begins_so) two.within)

pub one_deep : (all : List Token) (a b : ℕ) → TooDeepAt all a → TooDeepAt all b → a ≡ b
one_deep all a b one two = deep_by all a b one two (meet one.front (one.token ∷ one.rest) two.front (two.token ∷ two.rest) (sym one.split ∙ two.split))

faults_by : (all : List Token) (size a b : ℕ) (one : SyntaxAt all size a) (two : TooDeepAt all b) → Meeting one.front one.rest two.front (two.token ∷ two.rest) → ⊥
faults_by all size a b one two (alike fronts rests) =
    never_next (two.front ++ (two.token ∷ [])) one.front one.rest two.token [] two.rest two.way (ap (λ (l : List Token). l ++ (two.token ∷ [])) (sym fronts)) rests (with_token all b two) one.none_next
faults_by all size a b one two (longer t behind is so) =
    deep_before all one.front b two one.begun.way t behind (behind ++ one.rest) is so (one.begun.more, one.begun.begins_so) one.begun.within
faults_by all size a b one two (shorter t behind is so) =
    never_next two.front one.front one.rest t behind (behind ++ (two.token ∷ two.rest)) two.way is so (two.token ∷ two.more, two.begins_so) one.none_next

pub never_both : (all : List Token) (size a b : ℕ) → SyntaxAt all size a → TooDeepAt all b → ⊥
never_both all size a b one two = faults_by all size a b one two (meet one.front one.rest two.front (two.token ∷ two.rest) (sym one.split ∙ two.split))

never_ended : (d : Derivation k.query query) (all front rest : List Token) → tokens d ≡ all → all ≡ front ++ rest → NoneNext query front rest → ⊥
never_ended d all front [] is split never = never d (is ∙ split ∙ append-nil front)
never_ended d all front (t ∷ rest) is split never = never (d, rest, is ∙ split ∙ sym (append_assoc front (t ∷ []) rest))

pub no_syntax : (all : List Token) (size at : ℕ) (v : model.Query) → Derives levels query all v → SyntaxAt all size at → ⊥
no_syntax all size at v so one = never_ended so.0 all one.front one.rest so.1 one.split one.none_next

pub no_deep : (all : List Token) (at : ℕ) (v : model.Query) → Derives levels query all v → TooDeepAt all at → ⊥
no_deep all at v so one = one.none_within so.0 one.rest (so.1 ∙ one.split ∙ sym (append_assoc one.front (one.token ∷ []) one.rest)) so.3
