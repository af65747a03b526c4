-- The order of values is total.
use Rattle.std.proofs.Common.{◌≡◌, refl, Less, Equal}
use Rattle.std.specs.Ordering.{ordering_reverse}
use Rattle.std.specs.Cmp.{IsTotalOrder}
use Rattle.std.proofs.lemmas.Cmp.{int_cmp_total, nat_list_cmp_total}
use Rattle.storm_values.specs.declared.value.Value.{Value}
use Rattle.storm_values.specs.declared.value.Value.TheVariants.{Int, Text}
use Rattle.storm_values.specs.Order.{value_cmp}

value_cmp-antisymm : (a b : Value) → value_cmp a b ≡ ordering_reverse (value_cmp b a)
value_cmp-antisymm (Int a) (Int b) = int_cmp_total.antisymm a b
value_cmp-antisymm (Int a) (Text b) = refl
value_cmp-antisymm (Text a) (Int b) = refl
value_cmp-antisymm (Text a) (Text b) = nat_list_cmp_total.antisymm a b

value_cmp-trans : (a b c : Value) → value_cmp a b ≡ Less → value_cmp b c ≡ Less → value_cmp a c ≡ Less
value_cmp-trans (Int a) (Int b) (Int c) below above = int_cmp_total.trans a b c below above
value_cmp-trans (Int a) (Int b) (Text c) below above = refl
value_cmp-trans (Int a) (Text b) (Int c) below above = cc
value_cmp-trans (Int a) (Text b) (Text c) below above = refl
value_cmp-trans (Text a) (Int b) c below above = cc
value_cmp-trans (Text a) (Text b) (Int c) below above = above
value_cmp-trans (Text a) (Text b) (Text c) below above = nat_list_cmp_total.trans a b c below above

value_cmp-congr : (a b c : Value) → value_cmp a b ≡ Equal → value_cmp a c ≡ value_cmp b c
value_cmp-congr (Int a) (Int b) (Int c) same = int_cmp_total.congr a b c same
value_cmp-congr (Int a) (Int b) (Text c) same = refl
value_cmp-congr (Int a) (Text b) c same = cc
value_cmp-congr (Text a) (Int b) c same = cc
value_cmp-congr (Text a) (Text b) (Int c) same = refl
value_cmp-congr (Text a) (Text b) (Text c) same = nat_list_cmp_total.congr a b c same

pub value_cmp-total : IsTotalOrder value_cmp
value_cmp-total = record { antisymm = value_cmp-antisymm; trans = value_cmp-trans; congr = value_cmp-congr }
