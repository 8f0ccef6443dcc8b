-- What parse answers, from what its reader of a query answered.
use Rattle.std.proofs.Common.{◌≡◌, ℕ, ◌-◌, true, false, List, length, drop, map, Result, Ok, Err, refl, sym, ◌∙◌, ap, subst}
use Rattle.std.proofs.lemmas.List.{length-map}
use Rattle.grammar.specs.Trees as model
use Rattle.grammar.specs.Rules.{query}
use Rattle.grammar.specs.Reading.{Reads}
use Rattle.grammar.specs.Whole.{Derives}
use Rattle.query_lexer.specs.declared.token.Token.{Token}
use Rattle.query_tree.specs.Tokens.{seen}
use Rattle.query_tree.specs.Views.{query_of}
use Rattle.query_tree.specs.declared.query.Query.{Query}
use Rattle.query_parser.specs.Answers.{Gives, IsGiven, StopsAt}
use Rattle.query_parser.specs.Parsed.{SyntaxAt, IsThis, IsFault, place_in, place_before, fault_of}
use Rattle.query_parser.specs.declared.fault.ParseFault.{ParseFault}
use Rattle.query_parser.specs.declared.fault.Stop.{Stop}
use Rattle.query_parser.specs.declared.fault.Stop.TheVariants as stop
use Rattle.query_parser.proofs.Finishing.{stopped_only, ended, ended_only, left_only, syntax_is, deep_is, left_is}

-- what the reader answered, where it is a query and where it is a fault
read_ok : (items rest : List Token) (result : Result Query Stop) (q : Query) → Gives 64 query items rest query_of result → result ≡ Ok q → Reads 64 query (map seen items) (query_of q) (map seen rest)
read_ok items rest result q one is = subst (λ (x : Result Query Stop). IsGiven 64 query items rest query_of x) is one.is

read_err : (items rest : List Token) (result : Result Query Stop) (e : Stop) → Gives 64 query items rest query_of result → result ≡ Err e → StopsAt 64 query (map seen items) e
read_err items rest result e one is = let so = subst (λ (x : Result Query Stop). IsGiven 64 query items rest query_of x) is one.is in so.is

place_at : (items : List Token) (count size at : ℕ) → at ≡ place_in (drop (length items - count) (map seen items)) size → at ≡ place_in (drop (length (map seen items) - count) (map seen items)) size
place_at items count size at place = place ∙ ap (λ (n : ℕ). place_in (drop (n - count) (map seen items)) size) (sym (length-map items seen))

-- a query and nothing behind it
pub all_read : (items rest : List Token) (result : Result Query Stop) (q : Query) → Gives 64 query items rest query_of result → result ≡ Ok q → length rest ≡ 0 → Derives 64 query (map seen items) (query_of q)
all_read items rest result q one is none = ended (map seen items) (map seen rest) (query_of q) (length-map rest seen ∙ none) (read_ok items rest result q one is)

pub all_only : (items rest : List Token) (result : Result Query Stop) (q : Query) (w : model.Query) → Gives 64 query items rest query_of result → result ≡ Ok q → length rest ≡ 0 → Derives 64 query (map seen items) w → query_of q ≡ w
all_only items rest result q w one is none so = ended_only (map seen items) (map seen rest) (query_of q) w (length-map rest seen ∙ none) (read_ok items rest result q one is) so

-- a query and something behind it
pub some_only : (items rest : List Token) (result : Result Query Stop) (q : Query) (w : model.Query) → Gives 64 query items rest query_of result → result ≡ Ok q → (length rest ≡ 0 → ⊥) → Derives 64 query (map seen items) w → ⊥
some_only items rest result q w one is some so = left_only (map seen items) (map seen rest) (query_of q) w (λ none. some (sym (length-map rest seen) ∙ none)) (read_ok items rest result q one is) so

pub some_left : (items rest : List Token) (result : Result Query Stop) (q : Query) (size at : ℕ) → Gives 64 query items rest query_of result → result ≡ Ok q → (length rest ≡ 0 → ⊥)
    → at ≡ place_in (drop (length items - length rest) (map seen items)) size → SyntaxAt (map seen items) size at
some_left items rest result q size at one is some place =
    left_is (map seen items) (map seen rest) (query_of q) (length rest) size at (length-map rest seen) some (read_ok items rest result q one is) (place_at items (length rest) size at place)

-- a fault
pub stop_only : (items rest : List Token) (size : ℕ) (result : Result Query Stop) (e : Stop) (r : ParseFault) (w : model.Query) → Gives 64 query items rest query_of result → result ≡ Err e → r ≡ fault_of items size e
    → Derives 64 query (map seen items) w → IsThis (Err r) w
stop_only items rest size result (stop.Syntax count) r w one is same so =
    absurd (stopped_only (map seen items) false count w (read_err items rest result (stop.Syntax count) one is) so)
stop_only items rest size result (stop.TooDeep count) r w one is same so =
    absurd (stopped_only (map seen items) true count w (read_err items rest result (stop.TooDeep count) one is) so)
stop_only items rest size result stop.Memory r w one is same so = subst (λ (x : ParseFault). IsThis (Err x) w) (sym same) tt

pub stop_fault : (items rest : List Token) (size : ℕ) (result : Result Query Stop) (e : Stop) (r : ParseFault) → Gives 64 query items rest query_of result → result ≡ Err e → r ≡ fault_of items size e
    → IsFault (map seen items) size (Err r)
stop_fault items rest size result (stop.Syntax count) r one is same =
    subst (λ (x : ParseFault). IsFault (map seen items) size (Err x)) (sym same)
    (syntax_is (map seen items) count size (place_before items size count) (read_err items rest result (stop.Syntax count) one is) (place_at items count size (place_before items size count) refl))
stop_fault items rest size result (stop.TooDeep count) r one is same =
    subst (λ (x : ParseFault). IsFault (map seen items) size (Err x)) (sym same)
    (deep_is (map seen items) count size (place_before items size count) (read_err items rest result (stop.TooDeep count) one is) (place_at items count size (place_before items size count) refl))
stop_fault items rest size result stop.Memory r one is same = subst (λ (x : ParseFault). IsFault (map seen items) size (Err x)) (sym same) tt
