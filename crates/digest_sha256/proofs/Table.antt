-- Published examples, computed: the message of no bytes, and two of FIPS 180-4's own, "abc" and the message of 448 bits, which takes two blocks.
-- Assumes nothing.
use Rattle.std.proofs.Common.{◌≡◌, [], ◌∷◌, refl}
use mathlib.Core.List.{flat_map}
use Rattle.digest_sha256.specs.Constants.{divided, primes_below, root, fraction, constants, initials}
use Rattle.digest_sha256.specs.Sha256.{big_endian, padding, padded, block, block_word, next_word, scheduled, turned, after_turns, added_words, compressed, initial_hash, hashed, digest_of}

empty : digest_of [] ≡ 0xe3 ∷ 0xb0 ∷ 0xc4 ∷ 0x42 ∷ 0x98 ∷ 0xfc ∷ 0x1c ∷ 0x14 ∷ 0x9a ∷ 0xfb ∷ 0xf4 ∷ 0xc8 ∷ 0x99 ∷ 0x6f ∷ 0xb9 ∷ 0x24 ∷ 0x27 ∷ 0xae ∷ 0x41 ∷ 0xe4 ∷ 0x64 ∷ 0x9b ∷ 0x93 ∷ 0x4c ∷ 0xa4 ∷ 0x95 ∷ 0x99 ∷ 0x1b ∷ 0x78 ∷ 0x52 ∷ 0xb8 ∷ 0x55 ∷ []
unfolding big_endian padding padded block block_word next_word scheduled turned after_turns added_words compressed initial_hash hashed digest_of flat_map initials constants primes_below divided fraction root
empty = refl

abc : digest_of (97 ∷ 98 ∷ 99 ∷ []) ≡ 0xba ∷ 0x78 ∷ 0x16 ∷ 0xbf ∷ 0x8f ∷ 0x01 ∷ 0xcf ∷ 0xea ∷ 0x41 ∷ 0x41 ∷ 0x40 ∷ 0xde ∷ 0x5d ∷ 0xae ∷ 0x22 ∷ 0x23 ∷ 0xb0 ∷ 0x03 ∷ 0x61 ∷ 0xa3 ∷ 0x96 ∷ 0x17 ∷ 0x7a ∷ 0x9c ∷ 0xb4 ∷ 0x10 ∷ 0xff ∷ 0x61 ∷ 0xf2 ∷ 0x00 ∷ 0x15 ∷ 0xad ∷ []
unfolding big_endian padding padded block block_word next_word scheduled turned after_turns added_words compressed initial_hash hashed digest_of flat_map initials constants primes_below divided fraction root
abc = refl

two_blocks : digest_of (97 ∷ 98 ∷ 99 ∷ 100 ∷ 98 ∷ 99 ∷ 100 ∷ 101 ∷ 99 ∷ 100 ∷ 101 ∷ 102 ∷ 100 ∷ 101 ∷ 102 ∷ 103 ∷ 101 ∷ 102 ∷ 103 ∷ 104 ∷ 102 ∷ 103 ∷ 104 ∷ 105 ∷ 103 ∷ 104 ∷ 105 ∷ 106 ∷ 104 ∷ 105 ∷ 106 ∷ 107 ∷ 105 ∷ 106 ∷ 107 ∷ 108 ∷ 106 ∷ 107 ∷ 108 ∷ 109 ∷ 107 ∷ 108 ∷ 109 ∷ 110 ∷ 108 ∷ 109 ∷ 110 ∷ 111 ∷ 109 ∷ 110 ∷ 111 ∷ 112 ∷ 110 ∷ 111 ∷ 112 ∷ 113 ∷ []) ≡ 0x24 ∷ 0x8d ∷ 0x6a ∷ 0x61 ∷ 0xd2 ∷ 0x06 ∷ 0x38 ∷ 0xb8 ∷ 0xe5 ∷ 0xc0 ∷ 0x26 ∷ 0x93 ∷ 0x0c ∷ 0x3e ∷ 0x60 ∷ 0x39 ∷ 0xa3 ∷ 0x3c ∷ 0xe4 ∷ 0x59 ∷ 0x64 ∷ 0xff ∷ 0x21 ∷ 0x67 ∷ 0xf6 ∷ 0xec ∷ 0xed ∷ 0xd4 ∷ 0x19 ∷ 0xdb ∷ 0x06 ∷ 0xc1 ∷ []
unfolding big_endian padding padded block block_word next_word scheduled turned after_turns added_words compressed initial_hash hashed digest_of flat_map initials constants primes_below divided fraction root
two_blocks = refl
