-- Which peers a link over UDP may have (profile).
use Rattle.std.specs.Prelude.{◌≡◌, ◌≢◌, ℕ, List, [], ◌∷◌, take}
use Rattle.std.specs.declared.net.ip_addr.IpAddr.{IpAddr}
use Rattle.std.specs.declared.net.socket_addr.SocketAddr.{SocketAddr}
use Rattle.std.specs.declared.net.socket_addr.SocketAddr.TheVariants.{V4, V6}
use Rattle.std.specs.Net.Addr.{MatchIp, IsLoopbackV4, IsLoopbackV6, ipv4_octets, ipv6_segments}
use Rattle.std.specs.Net.Grammar.{IsSocketText}
use Rattle.std.specs.Net.Socket.{socket_flowinfo, socket_ip, socket_port, socket_scope_id, v4_ip, v6_ip}

-- the IP address is one of this machine's own: 127.0.0.0/8 or ::1
abbrev pub IsLocalIp : IpAddr → Type 0
IsLocalIp ip = MatchIp ip IsLoopbackV4 IsLoopbackV6

-- the address is one of this machine's own
abbrev pub IsLocal : SocketAddr → Type 0
IsLocal a = IsLocalIp (socket_ip a)

pub IsLocal-prop : (a : SocketAddr) → ((xs ys : List ℕ) → IsProp (xs ≡ ys)) → IsProp (IsLocal a)
IsLocal-prop (V4 a) equal = equal (take 1 (ipv4_octets (v4_ip a))) (127 ∷ [])
IsLocal-prop (V6 a) equal = equal (ipv6_segments (v6_ip a)) (0 ∷ 0 ∷ 0 ∷ 0 ∷ 0 ∷ 0 ∷ 0 ∷ 1 ∷ [])

-- it has no flow information and no scope
abbrev pub IsPlain : SocketAddr → Type 0
IsPlain a = (socket_flowinfo a ≡ 0) × (socket_scope_id a ≡ 0)

-- a peer is there: a plain address of this machine's own, and a port that is not 0
abbrev pub IsOfPeer : SocketAddr → Type 0
IsOfPeer a = IsPlain a × IsLocal a × (socket_port a ≢ 0)

-- the text names a peer, which is there
abbrev pub NamesPeer : List ℕ → SocketAddr → Type 0
NamesPeer text a = IsSocketText text a × IsOfPeer a

-- two addresses and ports are the same
abbrev pub IsSamePeer : SocketAddr → SocketAddr → Type 0
IsSamePeer a b = (socket_ip a ≡ socket_ip b) × (socket_port a ≡ socket_port b)
