-- The ring R with a square root of s: pairs (a, b) for a + b √s. w is that root.
use Rattle.std.specs.Prelude.{ℤ, pos, ◌+ℤ◌, ◌*ℤ◌, neg_ℤ}
use Rattle.cyclotomic.specs.Ring.{Ops}

pub record Pair (R : Type 0) : Type 0 where
  pub re : R
  pub im : R

abbrev pub adjoin : {R : Type 0} → Ops R → R → Ops (Pair R)
adjoin o s = record {
  nil = record { re = o.nil; im = o.nil };
  one = record { re = o.one; im = o.nil };
  w = record { re = o.nil; im = o.one };
  neg = λ x. record { re = o.neg x.re; im = o.neg x.im };
  plus = λ x y. record { re = o.plus x.re y.re; im = o.plus x.im y.im };
  times = λ x y. record {
    re = o.plus (o.times x.re y.re) (o.times s (o.times x.im y.im));
    im = o.plus (o.times x.re y.im) (o.times x.im y.re);
  };
}

-- the ring with a square root i of -1, and then with a square root w of i, so that w^4 = -1
abbrev pub gauss : {R : Type 0} → Ops R → Ops (Pair R)
gauss o = adjoin o (o.neg o.one)

abbrev pub tower : {R : Type 0} → Ops R → Ops (Pair (Pair R))
tower o = adjoin (gauss o) (gauss o).w

-- a0 + a1 w + a2 w^2 + a3 w^3
abbrev pub quad : {R : Type 0} → R → R → R → R → Pair (Pair R)
quad a0 a1 a2 a3 = record { re = record { re = a0; im = a2 }; im = record { re = a1; im = a3 } }

-- w becomes its inverse, -w^3
abbrev pub conj : {R : Type 0} → Ops R → Pair (Pair R) → Pair (Pair R)
conj o z = quad z.re.re (o.neg z.im.im) (o.neg z.re.im) (o.neg z.im.re)

-- the integers; w is of no use
abbrev pub ints : Ops ℤ
ints = record { nil = pos 0; one = pos 1; w = pos 1; neg = neg_ℤ; plus = ◌+ℤ◌; times = ◌*ℤ◌ }

abbrev pub Omega : Type 0
Omega = Pair (Pair ℤ)

unfoldable pub omegas : Ops Omega
omegas = tower ints
