pub mod KeysRead
