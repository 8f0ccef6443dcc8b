-- Answers handed on.
use Rattle.std.proofs.Common.{◌≡◌, List, [], ◌∷◌, ◌++◌, Result, Ok, Err, IsErrAnd, refl, sym, ap, subst, append_assoc}
use Rattle.query_types.specs.declared.fault.TypeFault.{TypeFault}
use Rattle.query_types.specs.declared.fault.TypeFault.TheVariants.{UnknownField, UnknownFunction, KindMismatch, WrongArity, TooFewColumns, BadPattern, NotInSelect, NotGrouped, NestedAggregate, StarWithGroups, Memory}
use Rattle.query_types.specs.Meanings.{Answers, added, joined}

-- a fault that one call answers is another's
pub hands_on : {A B C D : Type 0} (view : A → B) (other : C → D) (fault : TypeFault) (from : Result B TypeFault) (to : Result D TypeFault)
    → Answers view (Err fault) from → (from ≡ Err fault → to ≡ Err fault) → Answers other (Err fault) to
hands_on view other (UnknownField at) from to is next = next is
hands_on view other (UnknownFunction at) from to is next = next is
hands_on view other (KindMismatch at) from to is next = next is
hands_on view other (WrongArity at) from to is next = next is
hands_on view other (TooFewColumns at) from to is next = next is
hands_on view other (BadPattern at) from to is next = next is
hands_on view other (NotInSelect at) from to is next = next is
hands_on view other (NotGrouped at) from to is next = next is
hands_on view other (NestedAggregate at) from to is next = next is
hands_on view other (StarWithGroups at) from to is next = next is
hands_on view other Memory from to is next = tt

-- a fault that a `?` hands on
pub faulty : {A B : Type 0} (view : A → B) (r : Result A TypeFault) (fault : TypeFault) (wanted : Result B TypeFault)
    → IsErrAnd r (λ f. f ≡ fault) → Answers view (Err fault) wanted → Answers view r wanted
faulty view (Ok a) fault wanted is answered = absurd is
faulty view (Err f) fault wanted is answered = subst (λ (g : TypeFault). Answers view (Err g) wanted) (sym is) answered

pub joined_none : {A : Type 0} (r : Result (List A) TypeFault) → joined [] r ≡ r
joined_none (Err fault) = refl
joined_none (Ok rest) = refl

pub joined_one : {A : Type 0} (front : List A) (a : A) (r : Result (List A) TypeFault) → joined front (added (Ok a) r) ≡ joined (front ++ a ∷ []) r
joined_one front a (Err fault) = refl
joined_one front a (Ok rest) = ap Ok (sym (append_assoc front (a ∷ []) rest))
