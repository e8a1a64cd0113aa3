-- The head of a host's reply, by the grammar of `httparse`.
use Rattle.std.proofs.Common.{◌≡◌, ℕ, ◌+◌, ◌<◌, ◌≤◌, Bool, true, false, cond, List, [], ◌∷◌, ◌++◌, length, flat_map, All, Option, Some, None, codes, decimal, refl, sym, ap, ◌∙◌, arith, length-append, append_assoc, append-nil}
use Rattle.std.proofs.lemmas.List.Elements.{All-append, All-cons, All-nil}
use Rattle.std.proofs.lemmas.List.Sums.{AllPass-from_list_all}
use Rattle.std.proofs.lemmas.Fmt.{length-decimal-le}
use Rattle.std.specs.Char.{is_ascii_digit}
use Rattle.std.specs.List.{list_all}
use Rattle.cert_reader.specs.declared.limits.TheConstants.{MOST_BYTES}
use Rattle.httparse.specs.Grammar.{Field, IsField, ResponseHead, crlf, is_token_byte, is_value_byte, print_field, print_response, print_section}
use Rattle.httparse.proofs.GrammarLemmas.{print_response-append}
use Rattle.http_heads.specs.declared.limits.TheConstants.{MAX_FIELDS, MAX_HEAD}
use Rattle.remote_check.specs.Fields.{told_length}
use Rattle.remote_check.specs.Heads.{IsHead, fields_of}
use Rattle.split_http.specs.Replies.{close_line, reply_of_parts, kind_line}
use Rattle.program_laws.proofs.DateBytes.{FitsIn}
use Rattle.program_laws.proofs.Lengths.{decimal_digits, digits_pass, length_told}

-- the name, a colon, a space and the text
abbrev pub field : List ℕ → List ℕ → Field
field name text = record { name = name; raw = 32 ∷ text; end = crlf }

abbrev pub date_fields : Option (List ℕ) → List Field
date_fields None = []
date_fields (Some text) = field (codes "Date") text ∷ []

abbrev pub kind_text : Bool → List ℕ
kind_text plain = cond plain (codes "text/plain; charset=utf-8") (codes "application/json")

abbrev pub close_fields : Bool → List Field
close_fields close = cond close (field (codes "Connection") (codes "close") ∷ []) []

abbrev pub fields : Option (List ℕ) → Bool → ℕ → Bool → List Field
fields date plain size close = date_fields date ++ field (codes "Content-Type") (kind_text plain) ∷ field (codes "Content-Length") (decimal size) ∷ close_fields close

-- status 200, the date, the type and the length of the body, and whether the connection is closed
abbrev pub head_of : Option (List ℕ) → Bool → ℕ → Bool → ResponseHead
head_of date plain size close = record {
  blank = [];
  minor = 1;
  digits = codes "200";
  reason = Some (codes "OK");
  line_end = crlf;
  fields = fields date plain size close;
  last = crlf;
}

-- the line of the date
abbrev pub date_line : Option (List ℕ) → List ℕ
date_line None = []
date_line (Some text) = codes "Date: " ++ text ++ codes "\r\n"

-- the bytes of a host's reply of status 200 with this body
abbrev pub reply_bytes : Option (List ℕ) → Bool → ℕ → Bool → List ℕ → List ℕ
reply_bytes date plain size close body = reply_of_parts (codes "200") (codes "OK") (date_line date) (kind_line plain) (decimal size) [] (close_line close) body

size_regrouped : (size end close last body : List ℕ) → (((size ++ end) ++ close) ++ last) ++ body ≡ size ++ (end ++ (close ++ (last ++ body)))
size_regrouped size end close last body = simp append_assoc

front_regrouped : (front lines last body : List ℕ) → ((front ++ lines) ++ last) ++ body ≡ front ++ ((lines ++ last) ++ body)
front_regrouped front lines last body = simp append_assoc

-- the field lines, the empty line and the body are those of a reply
abbrev rest_of_lines : Bool → ℕ → Bool → List ℕ → List ℕ
rest_of_lines plain size close body =
    kind_line plain ++ (codes "Content-Length: " ++ (decimal size ++ (codes "\r\n" ++ (close_line close ++ (codes "\r\n" ++ body)))))

undated_lines : (plain : Bool) (size : ℕ) (close : Bool) (body : List ℕ) → print_section (fields None plain size close) crlf ++ body ≡ rest_of_lines plain size close body
undated_lines true size true body =
    ap (λ rest. kind_line true ++ (codes "Content-Length: " ++ rest)) (size_regrouped (decimal size) (codes "\r\n") (close_line true) (codes "\r\n") body)
undated_lines true size false body =
    ap (λ rest. kind_line true ++ (codes "Content-Length: " ++ rest)) (size_regrouped (decimal size) (codes "\r\n") [] (codes "\r\n") body)
undated_lines false size true body =
    ap (λ rest. kind_line false ++ (codes "Content-Length: " ++ rest)) (size_regrouped (decimal size) (codes "\r\n") (close_line true) (codes "\r\n") body)
undated_lines false size false body =
    ap (λ rest. kind_line false ++ (codes "Content-Length: " ++ rest)) (size_regrouped (decimal size) (codes "\r\n") [] (codes "\r\n") body)

section_lines : (date : Option (List ℕ)) (plain : Bool) (size : ℕ) (close : Bool) (body : List ℕ)
    → print_section (fields date plain size close) crlf ++ body ≡ date_line date ++ rest_of_lines plain size close body
section_lines None plain size close body = undated_lines plain size close body
section_lines (Some text) plain size close body =
    ap (λ rest. codes "Date: " ++ rest) (front_regrouped (text ++ codes "\r\n") (flat_map print_field (fields None plain size close)) (codes "\r\n") body)
    ∙ ap (λ rest. date_line (Some text) ++ rest) (undated_lines plain size close body)

nested : (date kind label size end close body : List ℕ)
    → date ++ kind ++ label ++ size ++ end ++ [] ++ close ++ end ++ body ≡ date ++ (kind ++ (label ++ (size ++ (end ++ (close ++ (end ++ body))))))
nested date kind label size end close body = simp (append_assoc, append-nil)

-- the bytes are the head and then the body
pub head_printed : (date : Option (List ℕ)) (plain : Bool) (size : ℕ) (close : Bool) (body : List ℕ)
    → reply_bytes date plain size close body ≡ print_response (head_of date plain size close) ++ body
head_printed date plain size close body =
    ap (λ rest. codes "HTTP/1.1 200 OK\r\n" ++ rest) (nested (date_line date) (kind_line plain) (codes "Content-Length: ") (decimal size) (codes "\r\n") (close_line close) body)
    ∙ sym (print_response-append (head_of date plain size close) body ∙ ap (λ lines. codes "HTTP/1.1 200 OK\r\n" ++ lines) (section_lines date plain size close body))

is_field : (name text : List ℕ) → 0 < length name → list_all is_token_byte name ≡ true → list_all is_value_byte text ≡ true → IsField (field name text)
is_field name text some token value = record {
  name = (some, AllPass-from_list_all is_token_byte name token);
  raw = AllPass-from_list_all is_value_byte (32 ∷ text) value;
}

-- the text of the date may be in a field, where there is one
abbrev pub HasDate : Option (List ℕ) → Type 0
HasDate None = Unit {0}
HasDate (Some text) = FitsIn 29 text

date_valid : (date : Option (List ℕ)) → HasDate date → All IsField (date_fields date)
unfolding is_token_byte
date_valid None fits = All-nil IsField
date_valid (Some text) fits = All-cons IsField (field (codes "Date") text) [] (is_field (codes "Date") text (omega arith) refl fits.all) (All-nil IsField)

close_valid : (close : Bool) → All IsField (close_fields close)
unfolding is_token_byte
close_valid true = All-cons IsField (field (codes "Connection") (codes "close")) [] (is_field (codes "Connection") (codes "close") (omega arith) refl refl) (All-nil IsField)
close_valid false = All-nil IsField

kind_valid : (plain : Bool) → IsField (field (codes "Content-Type") (kind_text plain))
unfolding is_token_byte
kind_valid true = is_field (codes "Content-Type") (kind_text true) (omega arith) refl refl
kind_valid false = is_field (codes "Content-Type") (kind_text false) (omega arith) refl refl

size_valid : (size : ℕ) → size ≤ MOST_BYTES → IsField (field (codes "Content-Length") (decimal size))
unfolding is_token_byte
size_valid size most = is_field (codes "Content-Length") (decimal size) (omega arith) refl (digits_pass (decimal size) (decimal_digits size (omega arith)))

valid_fields : (date : Option (List ℕ)) (plain : Bool) (size : ℕ) (close : Bool) → HasDate date → size ≤ MOST_BYTES → All IsField (fields date plain size close)
valid_fields date plain size close fits most =
    let type = field (codes "Content-Type") (kind_text plain) in
    let length_field = field (codes "Content-Length") (decimal size) in
    All-append IsField (date_fields date) (type ∷ length_field ∷ close_fields close) (date_valid date fits)
    (All-cons IsField type (length_field ∷ close_fields close) (kind_valid plain)
    (All-cons IsField length_field (close_fields close) (size_valid size most) (close_valid close)))

few_fields : (date : Option (List ℕ)) (plain : Bool) (size : ℕ) (close : Bool) → length (fields date plain size close) ≤ MAX_FIELDS
few_fields None plain size true = omega arith
few_fields None plain size false = omega arith
few_fields (Some text) plain size true = omega arith
few_fields (Some text) plain size false = omega arith

short_date : (date : Option (List ℕ)) → HasDate date → length (date_line date) ≤ 37
short_date None fits = omega arith
short_date (Some text) fits = omega (arith, fits.short, length-append text (codes "\r\n"))

short_kind : (plain : Bool) → length (kind_line plain) ≤ 41
short_kind true = omega arith
short_kind false = omega arith

short_close : (close : Bool) → length (close_line close) ≤ 19
short_close true = omega arith
short_close false = omega arith

joined_length : (date kind size close : List ℕ) → length (reply_of_parts (codes "200") (codes "OK") date kind size [] close []) ≡ length date + length kind + length size + length close + 37
joined_length date kind size close =
    let kinds = date ++ kind in
    let label = kinds ++ codes "Content-Length: " in
    let sizes = label ++ size in
    let ended = sizes ++ codes "\r\n" in
    let listed = ended ++ [] in
    let closed = listed ++ close in
    let all = closed ++ codes "\r\n" in
    omega (
      arith,
      length-append date kind,
      length-append kinds (codes "Content-Length: "),
      length-append label size,
      length-append sizes (codes "\r\n"),
      length-append ended [],
      length-append listed close,
      length-append closed (codes "\r\n"),
      length-append all [],
    )

short_head : (date : Option (List ℕ)) (plain : Bool) (size : ℕ) (close : Bool) → HasDate date → size ≤ MOST_BYTES → length (print_response (head_of date plain size close)) ≤ MAX_HEAD
short_head date plain size close fits most =
    let head = print_response (head_of date plain size close) in
    let whole : length (reply_bytes date plain size close []) ≡ length head = ap length (head_printed date plain size close [] ∙ append-nil head) in
    let parts = joined_length (date_line date) (kind_line plain) (decimal size) (close_line close) in
    let digits : length (decimal size) ≤ 10 = length-decimal-le 10 size (omega arith) (omega arith) (omega arith) in
    omega (arith, whole, parts, digits, short_date date fits, short_kind plain, short_close close)

-- it is a head of the grammar, short and with few fields
pub is_head : (date : Option (List ℕ)) (plain : Bool) (size : ℕ) (close : Bool) → HasDate date → size ≤ MOST_BYTES → IsHead (head_of date plain size close)
is_head date plain size close fits most = record {
  valid = record {
    minor = omega arith;
    digits = (refl, AllPass-from_list_all is_ascii_digit (codes "200") refl);
    reason = AllPass-from_list_all is_value_byte (codes "OK") refl;
    fields = valid_fields date plain size close fits most;
  };
  few = few_fields date plain size close;
  short = short_head date plain size close fits most;
}

-- and it tells the length of the body
pub head_tells : (date : Option (List ℕ)) (plain : Bool) (size : ℕ) (close : Bool) → size ≤ MOST_BYTES → told_length (fields_of (head_of date plain size close)) ≡ Some size
head_tells None plain size true most = length_told size most
head_tells None plain size false most = length_told size most
head_tells (Some text) plain size true most = length_told size most
head_tells (Some text) plain size false most = length_told size most
