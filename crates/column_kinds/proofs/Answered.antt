-- A fact at an answer, from a fact at the same answer.
use Rattle.std.proofs.Common.{Result, Ok, Err, OnOk, OnErr, IfOk, IfErr}

pub if_ok : {T E : Type 0} (P Q : T → Type 0) (r : Result T E) → ((value : T) → P value → Q value) → IfOk r P → IfOk r Q
if_ok P Q (Ok value) so p = so value p
if_ok P Q (Err fault) so p = tt

pub if_err : {T E : Type 0} (P Q : E → Type 0) (r : Result T E) → ((fault : E) → P fault → Q fault) → IfErr r P → IfErr r Q
if_err P Q (Ok value) so p = tt
if_err P Q (Err fault) so p = so fault p

pub on_ok : {T E : Type 0} (P Q : Type 0) (r : Result T E) → (P → Q) → OnOk r P → OnOk r Q
on_ok P Q (Ok value) so p = so p
on_ok P Q (Err fault) so p = tt

pub on_err_so : {T E : Type 0} (P Q : Type 0) (r : Result T E) → (P → Q) → OnErr r P → OnErr r Q
on_err_so P Q (Ok value) so p = tt
on_err_so P Q (Err fault) so p = so p

pub ok_so : {T E : Type 0} {P Q : Type 0} (r : Result T E) → OnOk r P → (P → Q) → OnOk r Q
ok_so (Ok value) p so = so p
ok_so (Err fault) p so = tt

pub err_so : {T E : Type 0} {P Q : Type 0} (r : Result T E) → OnErr r P → (P → Q) → OnErr r Q
err_so (Ok value) p so = tt
err_so (Err fault) p so = so p
