-- The published examples, computed from the definitions.
use Rattle.std.proofs.Common.{◌≡◌, [], codes, replicate, refl}
use Rattle.acra_crypto.specs.Aes.{aes256, encrypted, after_rounds, round, last_round, expanded, power_of_x, sub_byte, affine, number_of_bits, inverse, product_by_bits, xtimes, mixed}
use Rattle.acra_crypto.specs.Gcm.{aes256_gcm, gcm_sealed, tag, masked, xor_bytes, inc32, ghash_from, blocks, block_number, sum_of_bits, shifted}
use Rattle.acra_crypto.specs.Hmac.{hmac_sha256, block_key}
use Rattle.acra_crypto.specs.Published.{PublishedExamples, hex, zero_key, zero_nonce}
use Rattle.sha2.specs.Sha256.{first_words, schedule, rounds, compress, hash_after, digest_bytes, sha256}

aes256_block : aes256 (hex (codes "000102030405060708090a0b0c0d0e0f101112131415161718191a1b1c1d1e1f")) (hex (codes "00112233445566778899aabbccddeeff")) ≡ hex (codes "8ea2b7ca516745bfeafc49904b496089")
unfolding aes256 encrypted after_rounds round last_round expanded power_of_x sub_byte affine number_of_bits inverse product_by_bits xtimes mixed
aes256_block = refl

gcm_empty : aes256_gcm zero_key zero_nonce [] [] ≡ hex (codes "530f8afbc74536b9a963b4f1c4cb738b")
unfolding aes256 encrypted after_rounds round last_round expanded power_of_x sub_byte affine number_of_bits inverse product_by_bits xtimes mixed gcm_sealed tag masked xor_bytes inc32 ghash_from blocks block_number sum_of_bits shifted
gcm_empty = refl

gcm_zeros : aes256_gcm zero_key zero_nonce [] (replicate 16 0) ≡ hex (codes "cea7403d4d606b6e074ec5d3baf39d18d0d1c8a799996bf0265b98b5d48ab919")
unfolding aes256 encrypted after_rounds round last_round expanded power_of_x sub_byte affine number_of_bits inverse product_by_bits xtimes mixed gcm_sealed tag masked xor_bytes inc32 ghash_from blocks block_number sum_of_bits shifted
gcm_zeros = refl

gcm_extra : aes256_gcm (hex (codes "feffe9928665731c6d6a8f9467308308feffe9928665731c6d6a8f9467308308")) (hex (codes "cafebabefacedbaddecaf888")) (hex (codes "feedfacedeadbeeffeedfacedeadbeefabaddad2"))
    (hex (codes "d9313225f88406e5a55909c5aff5269a86a7a9531534f7da2e4c303d8a318a721c3c0c95956809532fcf0e2449a6b525b16aedf5aa0de657ba637b39")) ≡ hex (codes "522dc1f099567d07f47f37a32a84427d643a8cdcbfe5c0c97598a2bd2555d1aa8cb08e48590dbb3da7b08b1056828838c5f61e6393ba7a0abcc9f66276fc6ece0f4e1768cddf8853bb2d551b")
unfolding aes256 encrypted after_rounds round last_round expanded power_of_x sub_byte affine number_of_bits inverse product_by_bits xtimes mixed gcm_sealed tag masked xor_bytes inc32 ghash_from blocks block_number sum_of_bits shifted
gcm_extra = refl

hmac_short : hmac_sha256 (replicate 20 0x0b) (codes "Hi There") ≡ hex (codes "b0344c61d8db38535ca8afceaf0bf12b881dc200c9833da726e9376c2e32cff7")
unfolding hmac_sha256 block_key first_words schedule rounds compress hash_after digest_bytes sha256
hmac_short = refl

hmac_text_key : hmac_sha256 (codes "Jefe") (codes "what do ya want for nothing?") ≡ hex (codes "5bdcc146bf60754e6a042426089575c75a003f089d2739839dec58b964ec3843")
unfolding hmac_sha256 block_key first_words schedule rounds compress hash_after digest_bytes sha256
hmac_text_key = refl

hmac_long_key : hmac_sha256 (replicate 131 0xaa) (codes "Test Using Larger Than Block-Size Key - Hash Key First") ≡ hex (codes "60e431591ee0b67f0d8a26aacbf5b77f8e0bc6213728c5140546040f0ee37f54")
unfolding hmac_sha256 block_key first_words schedule rounds compress hash_after digest_bytes sha256
hmac_long_key = refl

pub examples : PublishedExamples
examples = record {
  aes256_block = aes256_block;
  gcm_empty = gcm_empty;
  gcm_zeros = gcm_zeros;
  gcm_extra = gcm_extra;
  hmac_short = hmac_short;
  hmac_text_key = hmac_text_key;
  hmac_long_key = hmac_long_key;
}
