-- Clauses on results.
use Rattle.std.specs.Prelude.{refl, IsOk, OnOk, OnErr, Result, Ok, Err}

-- and where it is Err
pub if_err : {T E P : Type 0} (r : Result T E) → P → OnErr r P
if_err (Ok x) p = tt
if_err (Err e) p = p

-- what holds where it is Ok, where it is
pub ok_of : {T E P : Type 0} (r : Result T E) → IsOk r → OnOk r P → P
ok_of (Ok x) is p = p
ok_of (Err e) is p = absurd (cc)

-- it is Ok, where something makes it so that holds where it is Err
pub ok_either : {T E P : Type 0} (r : Result T E) → (P → IsOk r) → OnErr r P → IsOk r
ok_either (Ok x) make only = refl
ok_either (Err e) make only = make only
