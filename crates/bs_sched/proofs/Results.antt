-- What holds of a call that succeeded, or that failed.
use Rattle.std.proofs.Common.{Result, Ok, Err}
use Rattle.std.specs.Prelude.{OnOk}

pub on_ok : {A B : Type 0} {P Q : Type 0} (result : Result A B) → (P → Q) → OnOk result P → OnOk result Q
on_ok (Ok value) next is = next is
on_ok (Err error) next is = is

pub on_both : {A B : Type 0} (P Q : Type 0) (result : Result A B) → OnOk result P → OnOk result Q → OnOk result (P × Q)
on_both P Q (Ok value) p q = (p, q)
on_both P Q (Err error) p q = tt
