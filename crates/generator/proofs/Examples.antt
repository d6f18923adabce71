-- The first values of three seeds, as Python's whole numbers give them.
use Rattle.std.proofs.Common.{◌≡◌, refl}
use Rattle.generator.specs.Draw.{drawn}

first_of_none : drawn 0 ≡ 1_442_695_040_888_963_407
first_of_none = refl

second_of_none : drawn (drawn 0) ≡ 1_876_011_003_808_476_466
second_of_none = refl

first_of_one : drawn 1 ≡ 7_806_831_264_735_756_412
first_of_one = refl

first_of_the_last : drawn 18_446_744_073_709_551_615 ≡ 13_525_302_890_751_722_018
first_of_the_last = refl
