-- One dimension of a mapping with n locales along it: the coordinate, from 0 to n - 1, of the locale on which an index
-- lies. Chapel Language Specification, Domain Maps; the standard distributions Block, Cyclic and Block-Cyclic.
-- `int_div_euclid` by a positive number rounds down, and `int_rem_euclid` by n lies from 0 to n - 1.
use Rattle.std.specs.Prelude.{ℕ, ℤ, pos, ◌+ℤ◌, ◌-ℤ◌, ◌*ℤ◌, int_lt, if◌then◌else◌}
use Rattle.std.specs.Int.{int_div_euclid, int_rem_euclid}
use Rattle.wb_range.specs.Sequence.{or_zero}

-- the box low..high is cut into n blocks as even as may be: floor((i - low) * n / (high - low + 1)).
-- What is below the box lies on the first locale, what is above it on the last
abbrev pub block_coordinate : (low high n i : ℤ) → ℕ
block_coordinate low high n i =
    if int_lt i low then 0
    else if int_lt high i then or_zero (n -ℤ pos 1)
    else or_zero (int_div_euclid ((i -ℤ low) *ℤ n) (high -ℤ low +ℤ pos 1))

-- the indices are dealt out one by one, upward and downward from the start: (i - start) mod n
abbrev pub cyclic_coordinate : (start n i : ℤ) → ℕ
cyclic_coordinate start n i = or_zero (int_rem_euclid (i -ℤ start) n)

-- they are dealt out in blocks of the size: floor((i - start) / size) mod n
abbrev pub block_cyclic_coordinate : (start size n i : ℤ) → ℕ
block_cyclic_coordinate start size n i = or_zero (int_rem_euclid (int_div_euclid (i -ℤ start) size) n)
