-- The fields are written in the order of their places, each behind the ones before it.
use Rattle.std.proofs.Common.{◌≡◌, ◌∷◌, ◌++◌, [], refl, arith}
use Rattle.std.proofs.lemmas.List.{set_at}
use borrow.Rule.Slice.PartMut.{put_mid}
use Rattle.byteorder.specs.Endian.{big_bytes}
use Rattle.sctp_cookie.specs.CookieBody.{body_bytes, options_byte}
use Rattle.sctp_cookie.specs.CookieTree.{content_meaning}
use Rattle.sctp_cookie.proofs.Filling.{filled, filled_more}
use Rattle.sctp_cookie.proofs.body.body_bytes.Goals as goal

pub returns-clause-layout : goal.returns-clause-layout
unfolding body_bytes
returns-clause-layout c =
    let b = c.args.content.body in
    let made = big_bytes 8 b.made in
    let bytes_made = c.write_u64.new.buf in
    let is_made : bytes_made ≡ filled made = c.write_u64.ensures in
    let listener_port = made ++ big_bytes 2 b.listener_port in
    let bytes_listener_port = put_mid 8 32 bytes_made c.write_u16.new.buf in
    let is_listener_port : bytes_listener_port ≡ filled listener_port = filled_more 8 32 2 made (big_bytes 2 b.listener_port) bytes_made c.write_u16.new.buf refl refl (omega arith) refl is_made c.write_u16.ensures in
    let caller_port = listener_port ++ big_bytes 2 b.caller_port in
    let bytes_caller_port = put_mid 10 30 bytes_listener_port c.write_u16-2.new.buf in
    let is_caller_port : bytes_caller_port ≡ filled caller_port = filled_more 10 30 2 listener_port (big_bytes 2 b.caller_port) bytes_listener_port c.write_u16-2.new.buf refl refl (omega arith) refl is_listener_port c.write_u16-2.ensures in
    let listener_tag = caller_port ++ big_bytes 4 b.listener_tag in
    let bytes_listener_tag = put_mid 12 28 bytes_caller_port c.write_u32.new.buf in
    let is_listener_tag : bytes_listener_tag ≡ filled listener_tag = filled_more 12 28 4 caller_port (big_bytes 4 b.listener_tag) bytes_caller_port c.write_u32.new.buf refl refl (omega arith) refl is_caller_port c.write_u32.ensures in
    let caller_tag = listener_tag ++ big_bytes 4 b.caller_tag in
    let bytes_caller_tag = put_mid 16 24 bytes_listener_tag c.write_u32-2.new.buf in
    let is_caller_tag : bytes_caller_tag ≡ filled caller_tag = filled_more 16 24 4 listener_tag (big_bytes 4 b.caller_tag) bytes_listener_tag c.write_u32-2.new.buf refl refl (omega arith) refl is_listener_tag c.write_u32-2.ensures in
    let listener_tsn = caller_tag ++ big_bytes 4 b.listener_tsn in
    let bytes_listener_tsn = put_mid 20 20 bytes_caller_tag c.write_u32-3.new.buf in
    let is_listener_tsn : bytes_listener_tsn ≡ filled listener_tsn = filled_more 20 20 4 caller_tag (big_bytes 4 b.listener_tsn) bytes_caller_tag c.write_u32-3.new.buf refl refl (omega arith) refl is_caller_tag c.write_u32-3.ensures in
    let caller_tsn = listener_tsn ++ big_bytes 4 b.caller_tsn in
    let bytes_caller_tsn = put_mid 24 16 bytes_listener_tsn c.write_u32-4.new.buf in
    let is_caller_tsn : bytes_caller_tsn ≡ filled caller_tsn = filled_more 24 16 4 listener_tsn (big_bytes 4 b.caller_tsn) bytes_listener_tsn c.write_u32-4.new.buf refl refl (omega arith) refl is_listener_tsn c.write_u32-4.ensures in
    let caller_rwnd = caller_tsn ++ big_bytes 4 b.caller_rwnd in
    let bytes_caller_rwnd = put_mid 28 12 bytes_caller_tsn c.write_u32-5.new.buf in
    let is_caller_rwnd : bytes_caller_rwnd ≡ filled caller_rwnd = filled_more 28 12 4 caller_tsn (big_bytes 4 b.caller_rwnd) bytes_caller_tsn c.write_u32-5.new.buf refl refl (omega arith) refl is_caller_tsn c.write_u32-5.ensures in
    let streams_to_caller = caller_rwnd ++ big_bytes 2 b.streams_to_caller in
    let bytes_streams_to_caller = put_mid 32 8 bytes_caller_rwnd c.write_u16-3.new.buf in
    let is_streams_to_caller : bytes_streams_to_caller ≡ filled streams_to_caller = filled_more 32 8 2 caller_rwnd (big_bytes 2 b.streams_to_caller) bytes_caller_rwnd c.write_u16-3.new.buf refl refl (omega arith) refl is_caller_rwnd c.write_u16-3.ensures in
    let streams_from_caller = streams_to_caller ++ big_bytes 2 b.streams_from_caller in
    let bytes_streams_from_caller = put_mid 34 6 bytes_streams_to_caller c.write_u16-4.new.buf in
    let is_streams_from_caller : bytes_streams_from_caller ≡ filled streams_from_caller = filled_more 34 6 2 streams_to_caller (big_bytes 2 b.streams_from_caller) bytes_streams_to_caller c.write_u16-4.new.buf refl refl (omega arith) refl is_streams_to_caller c.write_u16-4.ensures in
    rw (c.options_byte.ensures, is_streams_from_caller) (set_at streams_from_caller 0 (0 ∷ 0 ∷ 0 ∷ []) (options_byte (content_meaning c.args.content)) 36 refl)

pub returns-clause-in_range : goal.returns-clause-in_range
returns-clause-in_range c = record {
  moment = omega arith;
  parties = (record { port = omega arith; tag = omega arith; tsn = omega arith }, record { port = omega arith; tag = omega arith; tsn = omega arith });
  window = omega arith;
  counts = (omega arith, omega arith);
}
