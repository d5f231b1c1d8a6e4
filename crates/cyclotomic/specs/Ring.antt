-- Commutative rings, and commutative rings with an element w whose fourth power is -1.
use Rattle.std.specs.Prelude.{◌≡◌, ℕ, zero, suc}

pub record Ops (R : Type 0) : Type 0 where
  pub nil : R
  pub one : R
  pub w : R
  pub neg : R → R
  pub plus : R → R → R
  pub times : R → R → R

-- a commutative ring; w is any element
pub record CommLaws {R : Type 0} (o : Ops R) : Type 0 where
  pub plus_comm : (x y : R) → o.plus x y ≡ o.plus y x
  pub plus_assoc : (x y z : R) → o.plus (o.plus x y) z ≡ o.plus x (o.plus y z)
  pub plus_nil : (x : R) → o.plus x o.nil ≡ x
  pub plus_neg : (x : R) → o.plus x (o.neg x) ≡ o.nil
  pub times_comm : (x y : R) → o.times x y ≡ o.times y x
  pub times_assoc : (x y z : R) → o.times (o.times x y) z ≡ o.times x (o.times y z)
  pub times_one : (x : R) → o.times x o.one ≡ x
  pub times_plus : (x y z : R) → o.times x (o.plus y z) ≡ o.plus (o.times x y) (o.times x z)

pub record RingLaws {R : Type 0} (o : Ops R) : Type 0 where
  pub comm : CommLaws o
  pub w_fourth : o.plus (o.times (o.times (o.times o.w o.w) o.w) o.w) o.one ≡ o.nil

-- x to the power m
abbrev pub power : {R : Type 0} → Ops R → R → ℕ → R
power o x zero = o.one
power o x (suc m) = o.times x (power o x m)

-- w to the power m
abbrev pub wpow : {R : Type 0} → Ops R → ℕ → R
wpow o = power o o.w

-- w + w^7, a square root of 2
abbrev pub root : {R : Type 0} → Ops R → R
root o = o.plus (wpow o 1) (wpow o 7)

abbrev pub two : {R : Type 0} → Ops R → R
two o = o.plus o.one o.one

abbrev pub rpow : {R : Type 0} → Ops R → ℕ → R
rpow o = power o (root o)

-- the scalar r^p w^m
abbrev pub exact : {R : Type 0} → Ops R → ℕ → ℕ → R
exact o p m = o.times (rpow o p) (wpow o m)
